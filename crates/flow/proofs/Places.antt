-- Laws of the table of places: how it is made, and that what an id's place tells is the last block with the id.
use Rattle.std.proofs.Common.{◌≡◌, ◌∙◌, ap, ⊎_elim, List, ℕ, ◌+◌, ◌-◌, ◌%◌, ◌≤◌, ◌<◌, ltb, length, get_or, set, length-set, ltb-true, sym, get_or-set_same, get_or-set_other, arith}
use Rattle.std.proofs.lemmas.Bool.{cases_lt, cases_eq, cond_both}
use Rattle.flow.specs.Linked.{number_from}
use Rattle.flow.specs.Places.{place_of, told_at, IsPlaced, Put}
use Rattle.flow.proofs.Numbers.{number_here}

place_inside : (len id : ℕ) → 16 ≤ len → place_of len id < len
unfolding place_of
place_inside len id h = cond_both (ltb (id % 4096) len) (id % 4096) (id % 4096 % 16) (λ p. p < len) (ltb-true (id % 4096) len) (λ _. omega arith)

-- a later block only raises what stands at a place
module _ (j : ℕ) (ids places : List ℕ) (room : 16 ≤ length places) where
  abbrev place : ℕ → ℕ
  place i = place_of (length places) (get_or ids i 0)

  abbrev after : List ℕ
  after = set places (place j) (j + 1)

  told_same : (i : ℕ) → place i ≡ place j → told_at after (get_or ids i 0) ≡ j + 1
  told_same i e = rw (length-set places (place j) (j + 1), e) (get_or-set_same places (place j) (j + 1) 0 (place_inside (length places) (get_or ids j 0) room))

  told_other : (i : ℕ) → (place i ≡ place j → ⊥) → told_at after (get_or ids i 0) ≡ told_at places (get_or ids i 0)
  told_other i f = rw (length-set places (place j) (j + 1)) (get_or-set_other places (place j) (place i) (j + 1) 0 f)

  pub put_step : Put j ids places → Put (j + 1) ids after
  put_step p i h =
      ⊎_elim (λ (e : place i ≡ place j). let t = told_same i e in (omega arith, omega arith))
      (λ (f : place i ≡ place j → ⊥).
      let t = told_other i f in
      ⊎_elim (λ (l : i < j). let q = p i l in (omega arith, omega arith)) (λ (l : j ≤ i). let z : i ≡ j = omega arith in absurd (f (ap place z))) (cases_lt i j))
      (cases_eq (place i) (place j))

-- what an id's place tells is the last block with the id
pub placed_here : (ids places : List ℕ) (id k : ℕ) → length ids ≤ 1024 → Put (length ids) ids places → IsPlaced ids places id → k + 1 ≡ told_at places id → k ≡ number_from 0 ids id
placed_here ids places id k few puts p e =
    let z : told_at places id - 1 ≡ k = omega arith in
    sym (number_here ids id k few
    (record {
      inside = omega (arith, p.1);
      there = ap (λ (i : ℕ). get_or ids i 0) (sym z) ∙ p.2;
      last = λ j l b t. let q = (puts j b).0 in omega (arith, rw t at q);
    }))
