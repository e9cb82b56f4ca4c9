-- Sums over a list, and what a store does to one; what holds of each element after a store.
use mathlib.Core.Path.{◌≡◌, sym, subst}
use mathlib.Core.List.{List, [], ◌∷◌}
use Prim.Native.Nat.{ℕ, zero, suc, ◌+◌, ◌<◌}
use native.Mathlib.Nat.{le_of_suc-le-suc, not-suc-le-zero}
use native.Mathlib.Decide.{ℕ_discrete}
use native.Mathlib.Omega.{arith}
use lib.ListN.{length, get_or, set}
use lib.Seq.{get_or-set_same, get_or-set_other}
use Rattle.worklist.specs.Words.{total}

pub total_set : (f : ℕ → ℕ) (l : List ℕ) (i y : ℕ) → i < length l → total f (set l i y) + f (get_or l i 0) ≡ total f l + f y
unfolding total
total_set f [] i y h = absurd (not-suc-le-zero h)
total_set f (x ∷ l) zero y h = omega arith
total_set f (x ∷ l) (suc i) y h = let ih = total_set f l i y (le_of_suc-le-suc h) in omega arith

-- what holds of the element u after a store at i
pub after_set : (P : ℕ → ℕ → Type 0) (l : List ℕ) (i y u : ℕ) → i < length l → P i y → ((u ≡ i → ⊥) → P u (get_or l u 0)) → P u (get_or (set l i y) u 0)
after_set P l i y u h here there = go (ℕ_discrete u i)
  where
    go : Dec (u ≡ i) → P u (get_or (set l i y) u 0)
    go (yes e) = subst (λ (k : ℕ). P k (get_or (set l i y) k 0)) (sym e) (subst (λ (z : ℕ). P i z) (sym (get_or-set_same l i y 0 h)) here)
    go (no ne) = subst (λ (z : ℕ). P u z) (sym (get_or-set_other l i u y 0 ne)) (there ne)
