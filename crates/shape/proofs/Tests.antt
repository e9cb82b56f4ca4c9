-- Tests of tests: what follows from one that is true.
use mathlib.Core.Path.{◌≡◌, refl, sym}
use mathlib.Core.Bool.{Bool, true, false, true≢false}
use mathlib.Core.Logic.{◌⊎◌, inl, inr}
use Rattle.wire.specs.Pick.{both, either, implies}

pub both_true : (x y : Bool) → both x y ≡ true → (x ≡ true) × (y ≡ true)
both_true true y e = (refl, e)
both_true false y e = absurd (true≢false (sym e))

pub three_true : (x y z : Bool) → both x (both y z) ≡ true → (x ≡ true) × (y ≡ true) × (z ≡ true)
three_true x y z e =
    let p = both_true x (both y z) e in
    let q = both_true y z p.1 in
    (p.0, q.0, q.1)

pub either_true : (x y : Bool) → either x y ≡ true → (x ≡ true) ⊎ (y ≡ true)
either_true true y e = inl refl
either_true false y e = inr e

pub implied : (x y : Bool) → implies x y ≡ true → x ≡ true → y ≡ true
implied true y e h = e
implied false y e h = absurd (true≢false (sym h))
