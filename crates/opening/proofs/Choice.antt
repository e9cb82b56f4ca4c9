-- A choice by a test has a property where each side has it.
use mathlib.Core.Path.{◌≡◌, refl}
use mathlib.Core.Bool.{Bool, true, false}
use Rattle.wire.specs.Pick.{pick}

pub pick_ind : {A : Type 0} (P : A → Type 0) (x : Bool) (a b : A) → (x ≡ true → P a) → (x ≡ false → P b) → P (pick x a b)
pick_ind P true a b p q = p refl
pick_ind P false a b p q = q refl
