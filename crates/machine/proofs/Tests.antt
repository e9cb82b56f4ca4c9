-- A fact about a choice is shown for each of its sides.
use mathlib.Core.Bool.{Bool, true, false}
use Rattle.wire.specs.Pick.{pick}

pub by_test : {A : Type 0} (P : A → Type 0) (x : Bool) (p q : A) → P p → P q → P (pick x p q)
by_test P true p q a b = a
by_test P false p q a b = b
