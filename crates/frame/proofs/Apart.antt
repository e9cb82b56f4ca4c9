-- Cells never overlap: those of distinct variables, and those of the scratch ring; each lies in −512 to −8 on a multiple of 8.
use mathlib.Core.Path.{◌≡◌, refl, sym, ap, ◌∙◌}
use mathlib.Core.Bool.{Bool, true, false}
use mathlib.Core.Logic.{inl, inr, ⊎_elim}
use mathlib.Core.List.{List, [], ◌∷◌}
use Prim.Native.Nat.{ℕ, suc, ◌+◌, ◌-◌, ◌*◌, ◌%◌, ◌<◌, ◌≤◌}
use native.Mathlib.Nat.{mod-eq_of_lt, mod-lt, eq-or-lt_of_le, add-zero}
use native.Mathlib.Omega.{arith}
use borrow.Author.Tests.{eqb-true, lt-ltb, ltb-true, ltb-false}
use lib.Dec.{eqb, ltb, le→leb}
use lib.IntN.{ℤ, pos, ◌+ℤ◌}
use lib.ListN.{length, get_or}
use lib.Signed.{◌≤ℤ◌}
use Rattle.wire.specs.Pick.{pick}
use Rattle.frame.specs.Cell.{offset_of, cell_from, frame_of}
use Rattle.frame.specs.Apart.{InFrame, Apart, Disjoint}
use Rattle.std.specs.Prelude.{Some}

-- ---- offsets by their numbers

inside : (i : ℕ) → i < 64 → InFrame (offset_of i)
unfolding offset_of
inside i h =
    let e : 8 * suc i ≡ suc (8 * i + 7) = omega arith in
    record { number = i; below = h; is = rw (e, mod-eq_of_lt h) }

lower : (i j : ℕ) → i < j → j < 64 → (offset_of j +ℤ pos 8) ≤ℤ offset_of i
unfolding offset_of
lower i j h k =
    let small : i < 64 = omega arith in
    rw (mod-eq_of_lt k, mod-eq_of_lt small, lt-ltb 8 (suc (8 * j + 7)) (omega arith)) (record { le = le→leb (8 * i + 7) (suc (8 * j + 7) - 9) (omega arith) })

apart : (i j : ℕ) → (i ≡ j → ⊥) → i < 64 → j < 64 → Apart (offset_of i) (offset_of j)
apart i j n h k = go (ltb i j) refl
  where
    go : (t : Bool) → ltb i j ≡ t → Apart (offset_of i) (offset_of j)
    go true e = inr (lower i j (ltb-true i j e) k)
    go false e = ⊎_elim (λ (q : j ≡ i). absurd (n (sym q))) (λ q. inl (lower j i q h)) (eq-or-lt_of_le (ltb-false i j e))

-- ---- a variable's cell by its place

record Found (i : ℕ) (vs : List ℕ) (v : ℕ) (a : ℤ) : Type 0 where
  place : ℕ
  within : place < length vs
  holds : get_or vs place 0 ≡ v
  offset : a ≡ offset_of (i + place)

found : (i : ℕ) (vs : List ℕ) (v : ℕ) (a : ℤ) → cell_from i vs v ≡ Some a → Found i vs v a
unfolding cell_from
found i [] v a e = let z : ◌≡◌ {A = ℕ} 0 1 = cc in absurd (omega arith)
found i (x ∷ xs) v a e = go (eqb v x) refl (found (suc i) xs v a) e
  where
    go : (t : Bool) → eqb v x ≡ t → (cell_from (suc i) xs v ≡ Some a → Found (suc i) xs v a) → pick t (Some (offset_of i)) (cell_from (suc i) xs v) ≡ Some a → Found i (x ∷ xs) v a
    go true t later e = record { place = 0; within = omega arith; holds = sym (eqb-true v x t); offset = cc (add-zero i) }
    go false t later e =
        let p = later e in
        let one_more_lem : suc i + p.place ≡ i + suc p.place = omega arith in
        record { place = suc p.place; within = omega (arith, p.within); holds = p.holds; offset = p.offset ∙ ap offset_of one_more_lem }

-- ---- at most 56 variables

module _ (vs : List ℕ) (few : length vs ≤ 56) where
  pub disjoint : Disjoint vs
  unfolding frame_of
  disjoint =
      record {
        cell_inside = λ v a e. let p = found 0 vs v a e in rw p.offset (inside _ (omega arith));
        scratch_inside = λ j. inside _ (ring j);
        cells = λ v w a b n e f.
            let p = found 0 vs v a e in
            let q = found 0 vs w b f in
            rw (p.offset, q.offset) (apart _ _ (λ (s : 0 + p.place ≡ 0 + q.place). n (let same : p.place ≡ q.place = omega arith in cc)) (omega arith) (omega arith));
        cell_scratch = λ v j a e. let p = found 0 vs v a e in rw p.offset (apart _ _ (λ (s : 0 + p.place ≡ length vs + j % 8). omega arith) (omega arith) (ring j));
        scratches = λ j k n. apart _ _ (λ (s : length vs + j % 8 ≡ length vs + k % 8). n (omega arith)) (ring j) (ring k);
      }
    where
      ring : (j : ℕ) → length vs + j % 8 < 64
      ring j = omega (arith, mod-lt j {m = 8} (omega arith))
