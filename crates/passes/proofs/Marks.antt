-- The marks beside the variables tell which are branch conditions.
use mathlib.Core.Path.{◌≡◌, refl, sym, ap, ◌∙◌}
use mathlib.Core.Bool.{Bool, true, false}
use mathlib.Core.List.{List, [], ◌∷◌}
use Prim.Native.Nat.{ℕ, suc, ◌+◌, ◌<◌, ◌≤◌}
use native.Mathlib.Nat.{zero-add}
use native.Mathlib.Omega.{arith}
use borrow.Author.Tests.{eqb-true, eqb-false, eq-eqb, ne_eqb, lt-ltb, le-ltb}
use lib.Dec.{eqb, ltb}
use lib.ListN.{length, get_or, set}
use lib.Seq.{get_or-set_same, get_or-set_other}
use Rattle.wire.specs.Pick.{pick, both, either}
use Rattle.frame.specs.Hint.{index_from}
use Rattle.flow.specs.Node.{among}
use Rattle.jumps.specs.Landed.{marked}
use Rattle.passes.specs.Inner.{condition_from, mark_from, condition_at, mark_at}

-- ---- by the variable's index

condition_step : (i : ℕ) (xs marks : List ℕ) (v : ℕ) (t : Bool) → condition_from (suc i) xs marks v ≡ pick (ltb (index_from (suc i) xs v) (suc i + length xs)) (marked marks (index_from (suc i) xs v)) false
    → pick t (marked marks i) (condition_from (suc i) xs marks v) ≡ pick (ltb (pick t i (index_from (suc i) xs v)) (i + suc (length xs))) (marked marks (pick t i (index_from (suc i) xs v))) false
condition_step i xs marks v true h = rw (lt-ltb i (i + suc (length xs)) (omega arith))
condition_step i xs marks v false h = let n : suc i + length xs ≡ i + suc (length xs) = omega arith in rw (← n) h

condition_from_lem : (i : ℕ) (xs marks : List ℕ) (v : ℕ) → condition_from i xs marks v ≡ pick (ltb (index_from i xs v) (i + length xs)) (marked marks (index_from i xs v)) false
unfolding condition_from index_from
condition_from_lem i [] marks v = rw (le-ltb i (i + 0) (omega arith))
condition_from_lem i (x ∷ xs) marks v = condition_step i xs marks v (eqb v x) (condition_from_lem (suc i) xs marks v)

mark_step : (i : ℕ) (xs marks : List ℕ) (v : ℕ) (t : Bool) → mark_from (suc i) xs marks v ≡ pick (ltb (index_from (suc i) xs v) (suc i + length xs)) (set marks (index_from (suc i) xs v) 1) marks
    → pick t (set marks i 1) (mark_from (suc i) xs marks v) ≡ pick (ltb (pick t i (index_from (suc i) xs v)) (i + suc (length xs))) (set marks (pick t i (index_from (suc i) xs v)) 1) marks
mark_step i xs marks v true h = rw (lt-ltb i (i + suc (length xs)) (omega arith))
mark_step i xs marks v false h = let n : suc i + length xs ≡ i + suc (length xs) = omega arith in rw (← n) h

mark_from_lem : (i : ℕ) (xs marks : List ℕ) (v : ℕ) → mark_from i xs marks v ≡ pick (ltb (index_from i xs v) (i + length xs)) (set marks (index_from i xs v) 1) marks
unfolding mark_from index_from
mark_from_lem i [] marks v = rw (le-ltb i (i + 0) (omega arith))
mark_from_lem i (x ∷ xs) marks v = mark_step i xs marks v (eqb v x) (mark_from_lem (suc i) xs marks v)

module _ (vs marks : List ℕ) (v : ℕ) where
  pub condition_at_lem : condition_from 0 vs marks v ≡ condition_at vs marks (index_from 0 vs v)
  unfolding condition_at
  condition_at_lem = condition_from_lem 0 vs marks v ∙ ap (λ (n : ℕ). pick (ltb (index_from 0 vs v) n) (marked marks (index_from 0 vs v)) false) (zero-add (length vs))

  pub mark_at_lem : mark_from 0 vs marks v ≡ mark_at vs marks (index_from 0 vs v)
  unfolding mark_at
  mark_at_lem = mark_from_lem 0 vs marks v ∙ ap (λ (n : ℕ). pick (ltb (index_from 0 vs v) n) (set marks (index_from 0 vs v) 1) marks) (zero-add (length vs))

-- ---- a mark more

either_true : (t : Bool) → true ≡ either t true
either_true true = refl
either_true false = refl

pub either_false : (t : Bool) → t ≡ either t false
either_false true = refl
either_false false = refl

pub both_false : (t : Bool) → both t false ≡ false
both_false true = refl
both_false false = refl

set_behind : (i m : ℕ) (xs marks : List ℕ) (v : ℕ) → i < m → condition_from m xs (set marks i 1) v ≡ condition_from m xs marks v
unfolding condition_from marked
set_behind i m [] marks v h = refl
set_behind i m (x ∷ xs) marks v h = rw (set_behind i (suc m) xs marks v (omega arith), get_or-set_other marks i m 1 0 (λ q. omega arith))

either_one : (t : Bool) (a b : List ℕ) (i : ℕ) {y : ℕ} → get_or a i 0 ≡ y → get_or b i 0 ≡ y → get_or (pick t a b) i 0 ≡ y
either_one true a b i p q = p
either_one false a b i p q = q

mark_ahead : (i m : ℕ) (xs marks : List ℕ) (w : ℕ) → i < m → get_or (mark_from m xs marks w) i 0 ≡ get_or marks i 0
unfolding mark_from
mark_ahead i m [] marks w h = refl
mark_ahead i m (x ∷ xs) marks w h = either_one (eqb w x) _ _ i (get_or-set_other marks m i 1 0 (λ q. omega arith)) (mark_ahead i (suc m) xs marks w (omega arith))

module _ (i x : ℕ) (xs marks : List ℕ) (w v : ℕ) where
  one_mark : (t u : Bool) → eqb v x ≡ t → eqb w x ≡ u → i < length marks
      → condition_from (suc i) xs (mark_from (suc i) xs marks w) v ≡ either (condition_from (suc i) xs marks v) (both (among v xs) (eqb w v))
      → pick t (marked (pick u (set marks i 1) (mark_from (suc i) xs marks w)) i) (condition_from (suc i) xs (pick u (set marks i 1) (mark_from (suc i) xs marks w)) v) ≡ either (pick t (marked marks i) (condition_from (suc i) xs marks v)) (both (either t (among v xs)) (eqb w v))
  unfolding marked
  one_mark true true p q h ih =
      ap (λ (n : ℕ). eqb n 1) (get_or-set_same marks i 1 0 h)
      ∙ either_true (marked marks i) ∙ ap (either (marked marks i)) (sym (eq-eqb w v (eqb-true w x q ∙ sym (eqb-true v x p))))
  one_mark true false p q h ih =
      ap (λ (n : ℕ). eqb n 1) (mark_ahead i (suc i) xs marks w (omega arith))
      ∙ either_false (marked marks i) ∙ ap (either (marked marks i)) (sym (ne_eqb w v (λ z. eqb-false w x q (z ∙ eqb-true v x p))))
  one_mark false true p q h ih =
      set_behind i (suc i) xs marks v (omega arith)
      ∙ either_false _
      ∙ ap (either (condition_from (suc i) xs marks v)) (sym (both_false (among v xs)) ∙ ap (both (among v xs)) (sym (ne_eqb w v (λ z. eqb-false v x p (sym z ∙ eqb-true w x q)))))
  one_mark false false p q h ih = ih

pub mark_more : (i : ℕ) (vs marks : List ℕ) (w v : ℕ) → i + length vs ≤ length marks → condition_from i vs (mark_from i vs marks w) v ≡ either (condition_from i vs marks v) (both (among v vs) (eqb w v))
unfolding condition_from mark_from among
mark_more i [] marks w v h = refl
mark_more i (x ∷ xs) marks w v h = one_mark i x xs marks w v (eqb v x) (eqb w x) refl refl (omega arith) (mark_more (suc i) xs marks w v (omega arith))
