-- Writing, once for every width: what a store leaves in the bytes, and what is read there afterwards.
use mathlib.Core.Path.{◌≡◌, refl, ap, ◌∙◌, sym}
use mathlib.Core.Bool.{Bool, true, false}
use mathlib.Core.Logic.{◌⊎◌, inl, inr, ⊎_elim}
use mathlib.Core.List.{List, [], ◌∷◌, ◌++◌, append_assoc}
use Prim.Native.Nat.{ℕ, zero, suc, ◌+◌, ◌-◌, ◌^◌, ◌<◌, ◌≤◌}
use native.Mathlib.Nat.{add-zero, add-suc, suc-add, add-sub_cancel_left}
use native.Mathlib.Omega.{arith}
use borrow.Author.Tests.{le-leb, lt-leb, leb-true, leb-false}
use lib.Dec.{leb}
use lib.IntN.{ℤ}
use lib.ListN.{length, get_or, set, take, drop, length-append, length-drop, take-append-drop}
use lib.Seq.{sets, sets-eq, length-sets, get_or-set_other, length-take-le, drop-drop}
use mir.Syntax.{Width}
use mir.Val.{SFits, to_z, of_z, bits}
use mir.ValLaws.{to_z-of_z, of_z-to_z, of_z_fits}
use borrow.Rule.Slice.PartMut.{put_mid}
use Rattle.wire.specs.Pick.{pick}
use Rattle.wire.specs.Le.{octets, Bytes, unsigned_at, signed_at, unsigned_bytes, signed_bytes, store}
use Rattle.wire.proofs.Le.{le_same, unsigned_length, unsigned_below, unsigned_of_bytes, bytes_of_unsigned}

-- ---- a run of elements

-- adjacent runs are one
sets_run : (u v b : List ℕ) (i : ℕ) → sets (sets b i u) (i + length u) v ≡ sets b i (u ++ v)
sets_run [] v b i = ap (λ (k : ℕ). sets b k v) (add-zero i)
sets_run (a ∷ u) v b i =
    ap (λ (k : ℕ). sets (sets (set b i a) (suc i) u) k v) (add-suc i (length u) ∙ sym (suc-add i (length u))) ∙ sets_run u v (set b i a) (suc i)

-- what stands elsewhere is kept
sets_elsewhere : (v b : List ℕ) (i j : ℕ) → (j < i) ⊎ (i + length v ≤ j) → get_or (sets b i v) j 0 ≡ get_or b j 0
sets_elsewhere [] b i j h = refl
sets_elsewhere (a ∷ v) b i j (inl h) = sets_elsewhere v (set b i a) (suc i) j (inl (omega arith)) ∙ get_or-set_other b i j a 0 (λ (e : j ≡ i). omega arith)
sets_elsewhere (a ∷ v) b i j (inr h) = sets_elsewhere v (set b i a) (suc i) j (inr (omega arith)) ∙ get_or-set_other b i j a 0 (λ (e : j ≡ i). omega arith)

-- bytes stay bytes
set_bytes : (b : List ℕ) (i a : ℕ) → Bytes b → a < 256 → Bytes (set b i a)
set_bytes b i a h l = record { at = go b i h.at }
  where
    go : (b : List ℕ) (i : ℕ) → ((j : ℕ) → get_or b j 0 < 256) → (j : ℕ) → get_or (set b i a) j 0 < 256
    go [] i h j = h j
    go (c ∷ b) zero h zero = l
    go (c ∷ b) zero h (suc j) = h (suc j)
    go (c ∷ b) (suc i) h zero = h 0
    go (c ∷ b) (suc i) h (suc j) = go b i (λ k. h (suc k)) j

sets_bytes : (v b : List ℕ) (i : ℕ) → Bytes b → Bytes v → Bytes (sets b i v)
sets_bytes [] b i h l = h
sets_bytes (a ∷ v) b i h l = sets_bytes v (set b i a) (suc i) (set_bytes b i a h (l.at 0)) (record { at = λ k. l.at (suc k) })

-- ---- a store

module _ (b : List ℕ) (i : ℕ) (v : List ℕ) where
  pub store_in : i + length v ≤ length b → store b i v ≡ sets b i v
  unfolding store
  store_in h = rw (le-leb (i + length v) (length b) h)

  pub store_parts : i + length v ≤ length b → store b i v ≡ take i b ++ v ++ drop (i + length v) b
  store_parts h = store_in h ∙ sets-eq v b i h

  -- what is left of b where a part of it, n elements long, now holds v
  pub put_there : (n : ℕ) {w : List ℕ} → w ≡ v → n ≡ length v → i + n ≤ length b → put_mid i (i + n - i) b w ≡ store b i v
  put_there n e m h = rw (m, e, add-sub_cancel_left, drop-drop) (sym (append_assoc (take i b) v (drop (i + length v) b)) ∙ sym (store_parts (rw m at h)))

  pub store_out : length b < i + length v → store b i v ≡ b
  unfolding store
  store_out h = rw (lt-leb (i + length v) (length b) h)

  pub store_length : length (store b i v) ≡ length b
  unfolding store
  store_length = go (leb (i + length v) (length b))
    where
      go : (t : Bool) → length (pick t (sets b i v) b) ≡ length b
      go true = length-sets b i v
      go false = refl

  pub store_bytes : Bytes b → Bytes v → Bytes (store b i v)
  unfolding store
  store_bytes h l = go (leb (i + length v) (length b))
    where
      go : (t : Bool) → Bytes (pick t (sets b i v) b)
      go true = sets_bytes v b i h l
      go false = h

  byte_elsewhere : (j : ℕ) → (j < i) ⊎ (i + length v ≤ j) → get_or (store b i v) j 0 ≡ get_or b j 0
  unfolding store
  byte_elsewhere j h = go (leb (i + length v) (length b))
    where
      go : (t : Bool) → get_or (pick t (sets b i v) b) j 0 ≡ get_or b j 0
      go true = sets_elsewhere v b i j h
      go false = refl

-- adjacent stores are one store
pub store_run : (b : List ℕ) (i : ℕ) (u v : List ℕ) → i + length u + length v ≤ length b → store (store b i u) (i + length u) v ≡ store b i (u ++ v)
store_run b i u v h =
    ap (λ (l : List ℕ). store l (i + length u) v) (store_in b i u (omega arith))
    ∙ store_in (sets b i u) (i + length u) v (simp length-sets (omega arith))
    ∙ sets_run u v b i
    ∙ sym (store_in b i (u ++ v) (simp length-append (omega arith)))

-- the n bytes that stand there
store_there : (b : List ℕ) (i n : ℕ) → i + n ≤ length b → store b i (take n (drop i b)) ≡ b
store_there b i n h =
    let m : length (take n (drop i b)) ≡ n = length-take-le n (drop i b) (simp length-drop (omega arith)) in
    store_parts b i (take n (drop i b)) (omega arith)
    ∙ rw (m, append_assoc, ← drop-drop n i b, take-append-drop n (drop i b)) (take-append-drop i b)

-- ---- a number of a width

module _ (w : Width) where
  -- a number that was written is read
  pub unsigned_back : (b : List ℕ) (i x : ℕ) → i + octets w ≤ length b → x < 2 ^ bits w → unsigned_at w (store b i (unsigned_bytes w x)) i ≡ x
  unsigned_back b i x h l =
      ap (λ (c : List ℕ). unsigned_at w c i) (store_parts b i (unsigned_bytes w x) (omega (arith, unsigned_length w x)))
      ∙ ap (unsigned_at w (take i b ++ unsigned_bytes w x ++ drop (i + length (unsigned_bytes w x)) b)) (sym (length-take-le i b (omega arith)))
      ∙ unsigned_of_bytes w (take i b) (drop (i + length (unsigned_bytes w x)) b) x l

  pub signed_back : (b : List ℕ) (i : ℕ) (z : ℤ) → i + octets w ≤ length b → SFits w z → signed_at w (store b i (signed_bytes w z)) i ≡ z
  unfolding signed_at signed_bytes
  signed_back b i z h f = ap (to_z w) (unsigned_back b i (of_z w z) h (of_z_fits w z f).fits) ∙ to_z-of_z w z f

  -- a number that was read is written: nothing changes, wherever it was read
  pub unsigned_unchanged : (b : List ℕ) (i : ℕ) → Bytes b → store b i (unsigned_bytes w (unsigned_at w b i)) ≡ b
  unsigned_unchanged b i h = go (leb (i + octets w) (length b)) refl
    where
      go : (t : Bool) → leb (i + octets w) (length b) ≡ t → store b i (unsigned_bytes w (unsigned_at w b i)) ≡ b
      go true e =
          let l : i + octets w ≤ length b = leb-true _ _ e in
          ap (store b i) (bytes_of_unsigned w b i h l) ∙ store_there b i (octets w) l
      go false e =
          let l : length b < i + octets w = leb-false _ _ e in
          store_out b i (unsigned_bytes w (unsigned_at w b i)) (omega (arith, unsigned_length w (unsigned_at w b i)))

  pub signed_unchanged : (b : List ℕ) (i : ℕ) → Bytes b → store b i (signed_bytes w (signed_at w b i)) ≡ b
  unfolding signed_at signed_bytes
  signed_unchanged b i h =
      ap (λ (x : ℕ). store b i (unsigned_bytes w x)) (of_z-to_z w (unsigned_at w b i) (record { fits = unsigned_below w b i h }))
      ∙ unsigned_unchanged b i h

  -- a number that lies elsewhere is read as before
  pub unsigned_elsewhere : (b : List ℕ) (i : ℕ) (v : List ℕ) (j : ℕ) → (j + octets w ≤ i) ⊎ (i + length v ≤ j) → unsigned_at w (store b i v) j ≡ unsigned_at w b j
  unfolding unsigned_at
  unsigned_elsewhere b i v j h =
      let same = le_same (octets w) (store b i v) b j j (λ k l. byte_elsewhere b i v (j + k) (⊎_elim (λ (a : j + octets w ≤ i). inl (omega arith)) (λ (a : i + length v ≤ j). inr (omega arith)) h)) in
      rw (store_length b i v, same)

  pub signed_elsewhere : (b : List ℕ) (i : ℕ) (v : List ℕ) (j : ℕ) → (j + octets w ≤ i) ⊎ (i + length v ≤ j) → signed_at w (store b i v) j ≡ signed_at w b j
  unfolding signed_at
  signed_elsewhere b i v j h = ap (to_z w) (unsigned_elsewhere b i v j h)
