-- Bytes that stand somewhere: what is read there, and how they are put together and taken apart.
use mathlib.Core.Path.{◌≡◌, refl, sym, ap, ◌∙◌, subst}
use mathlib.Core.List.{List, [], ◌∷◌, ◌++◌, append_assoc}
use Prim.Native.Nat.{ℕ, ◌+◌, ◌<◌, ◌≤◌}
use native.Mathlib.Omega.{arith}
use lib.IntN.{ℤ}
use lib.ListN.{length, get_or, take, drop, length-append, take-append-drop}
use lib.Seq.{drop-drop, take-add, take-take, take-append_seam, drop-append_seam, drop_at, take_at, length-take-le, drop-cons}
use mir.Syntax.{Width}
use mir.Val.{Fits, SFits}
use Rattle.wire.specs.Le.{octets, Bytes, unsigned_at, signed_at, unsigned_bytes, signed_bytes}
use Rattle.wire.proofs.Le.{unsigned_length, signed_length, unsigned_of_bytes, signed_of_bytes, bytes_of_unsigned, bytes_of_signed}

-- the k bytes v stand at i in b
pub record Holds (b : List ℕ) (i k : ℕ) (v : List ℕ) : Type 0 where
  pub size : length v ≡ k
  pub room : i + k ≤ length b
  pub same : take k (drop i b) ≡ v

pub stands : (p v q : List ℕ) → Holds (p ++ v ++ q) (length p) (length v) v
stands p v q =
    record {
      size = refl;
      room = simp length-append (omega arith);
      same = rw append_assoc (ap (take (length v)) (drop-append_seam p (v ++ q)) ∙ take-append_seam v q);
    }

-- the same, by equal numbers and bytes
pub turned : {b u v : List ℕ} {i k n : ℕ} → k ≡ n → u ≡ v → Holds b i k u → Holds b i n v
turned {b} {u} {v} {i} {k} {n} e f h = subst (λ (m : ℕ). Holds b i m v) e (subst (Holds b i k) f h)

-- ---- two pieces

module _ {b : List ℕ} {i : ℕ} where
  infixl 60 ◌▹◌
  pub ◌▹◌ : {j k : ℕ} {u v : List ℕ} → Holds b i j u → Holds b (i + j) k v → Holds b i (j + k) (u ++ v)
  ◌▹◌ {j} {k} {u} {v} g h =
      let next : take k (drop j (drop i b)) ≡ v = ap (take k) (drop-drop j i b) ∙ h.same in
      record {
        size = simp length-append (omega (arith, g.size, h.size));
        room = omega (arith, h.room);
        same = take-add j k (drop i b) ∙ ap (λ (l : List ℕ). l ++ take k (drop j (drop i b))) g.same ∙ ap (λ (l : List ℕ). u ++ l) next;
      }

  module _ (u v : List ℕ) (j : ℕ) {n : ℕ} (e : length u ≡ j) (h : Holds b i n (u ++ v)) where
    total : j + length v ≡ n
    total = omega (arith, e, h.size, length-append u v)

    whole : take (j + length v) (drop i b) ≡ u ++ v
    whole = rw total h.same

    pub first : Holds b i j u
    first =
        record {
          size = e;
          room = omega (arith, h.room, total);
          same = sym (take-take j (j + length v) (drop i b) (omega arith)) ∙ ap (take j) whole ∙ take_at u v j e;
        }

    pub second : Holds b (i + j) (length v) v
    second =
        let l : length (take j (drop i b)) ≡ j = ap length first.same ∙ e in
        record {
          size = refl;
          room = omega (arith, h.room, total);
          same =
              ap (take (length v)) (sym (drop-drop j i b))
              ∙ sym (drop_at (take j (drop i b)) (take (length v) (drop j (drop i b))) j l)
              ∙ ap (drop j) (sym (take-add j (length v) (drop i b)) ∙ whole)
              ∙ drop_at u v j e;
        }

-- ---- one byte

pub byte_there : {b v : List ℕ} {i k : ℕ} (x : ℕ) → Holds b i k (x ∷ v) → get_or b i 0 ≡ x
byte_there {b} {v} {i} {k} x h =
    ap (λ (l : List ℕ). get_or (take (length (x ∷ v)) l) 0 0) (sym (drop-cons b i 0 (omega (arith, h.room, h.size))))
    ∙ ap (λ (n : ℕ). get_or (take n (drop i b)) 0 0) h.size
    ∙ ap (λ (l : List ℕ). get_or l 0 0) h.same

pub byte_holds : (b : List ℕ) (i : ℕ) {x : ℕ} → i < length b → get_or b i 0 ≡ x → Holds b i 1 (x ∷ [])
byte_holds b i h e = record { size = refl; room = omega arith; same = ap (take 1) (drop-cons b i 0 h) ∙ ap (λ (y : ℕ). y ∷ []) e }

-- ---- a number

-- what stands before a piece and after it
parts : {b v : List ℕ} {i k : ℕ} → Holds b i k v → b ≡ take i b ++ v ++ drop k (drop i b)
parts {b} {v} {i} {k} h =
    sym (take-append-drop i b)
    ∙ ap (λ (l : List ℕ). take i b ++ l) (sym (take-append-drop k (drop i b)) ∙ ap (λ (l : List ℕ). l ++ drop k (drop i b)) h.same)
    ∙ sym (append_assoc (take i b) v (drop k (drop i b)))

front : {b v : List ℕ} {i k : ℕ} → Holds b i k v → length (take i b) ≡ i
front {b} {v} {i} {k} h = length-take-le i b (omega (arith, h.room))

module _ (w : Width) where
  pub unsigned_there : {b : List ℕ} {i k : ℕ} (x : ℕ) → Fits w x → Holds b i k (unsigned_bytes w x) → unsigned_at w b i ≡ x
  unsigned_there {b} {i} {k} x f h =
      ap (λ (l : List ℕ). unsigned_at w l i) (parts h)
      ∙ ap (unsigned_at w (take i b ++ unsigned_bytes w x ++ drop k (drop i b))) (sym (front h))
      ∙ unsigned_of_bytes w (take i b) (drop k (drop i b)) x f.fits

  pub signed_there : {b : List ℕ} {i k : ℕ} (z : ℤ) → SFits w z → Holds b i k (signed_bytes w z) → signed_at w b i ≡ z
  signed_there {b} {i} {k} z f h =
      ap (λ (l : List ℕ). signed_at w l i) (parts h)
      ∙ ap (signed_at w (take i b ++ signed_bytes w z ++ drop k (drop i b))) (sym (front h))
      ∙ signed_of_bytes w (take i b) (drop k (drop i b)) z f

  pub unsigned_holds : (b : List ℕ) (i : ℕ) {x : ℕ} → Bytes b → i + octets w ≤ length b → unsigned_at w b i ≡ x → Holds b i (octets w) (unsigned_bytes w x)
  unsigned_holds b i {x} h l e = record { size = unsigned_length w x; room = l; same = sym (bytes_of_unsigned w b i h l) ∙ ap (unsigned_bytes w) e }

  pub signed_holds : (b : List ℕ) (i : ℕ) {z : ℤ} → Bytes b → i + octets w ≤ length b → signed_at w b i ≡ z → Holds b i (octets w) (signed_bytes w z)
  signed_holds b i {z} h l e = record { size = signed_length w z; room = l; same = sym (bytes_of_signed w b i h l) ∙ ap (signed_bytes w) e }
