-- A choice by a test, and tests of tests.
use Rattle.std.specs.Prelude.{Bool, true, false, eqb, ℤ, pos, negsuc}

abbrev pub pick : {A : Type 0} → Bool → A → A → A
pick true a b = a
pick false a b = b

abbrev pub both : Bool → Bool → Bool
both true y = y
both false y = false

abbrev pub either : Bool → Bool → Bool
either true y = true
either false y = y

abbrev pub not : Bool → Bool
not true = false
not false = true

abbrev pub implies : Bool → Bool → Bool
implies true y = y
implies false y = true

-- a signed number is 0
unfoldable pub is_zero : ℤ → Bool
is_zero (pos n) = eqb n 0
is_zero (negsuc n) = false
