-- Whether a signed number lies in a narrower range, once for every width.
use mathlib.Core.Path.{◌≡◌, refl, sym}
use mathlib.Core.Bool.{Bool, true, false}
use Prim.Native.Nat.{◌^◌}
use lib.Dec.{ltb}
use lib.IntN.{ℤ}
use lib.Signed.{mag}
use mir.Syntax.{Width, w16, w32}
use mir.Val.{SFits, of_z, to_z, hbits}
use mir.ValLaws.{to_z-of_z}
use borrow.Author.Tests.{lt-ltb, ltb-true}
use Rattle.std.specs.Prelude.{Result, Ok, Err}
use Rattle.std.specs.Result.{OkIff, is_ok}
use Rattle.wire.specs.Range.{fits16, fits32}

-- what `try_from` tells, from a number z of the width v to the narrower w; z has passed through an argument
pub told : (v w : Width) (z : ℤ) {E : Type 0} (r : Result ℤ E) (y : ℤ) → SFits v z → OkIff r (SFits w (to_z v (of_z v z))) y → is_ok r ≡ ltb (mag z) (2 ^ hbits w)
told v w z (Ok x) y f h = let g : SFits w z = rw (to_z-of_z v z f) at h.0 in sym (lt-ltb _ _ g.sfits)
told v w z (Err e) y f h = go (ltb (mag z) (2 ^ hbits w)) refl
  where
    go : (t : Bool) → ltb (mag z) (2 ^ hbits w) ≡ t → false ≡ t
    go true e = let g : SFits w z = record { sfits = ltb-true _ _ e } in absurd (h (rw (to_z-of_z v z f) g))
    go false e = refl

-- a number in the range, as the narrower type holds it
pub in16 : (z : ℤ) → fits16 z ≡ true → SFits w16 z
unfolding fits16
in16 z e = record { sfits = ltb-true (mag z) (2 ^ 15) e }

pub in32 : (z : ℤ) → fits32 z ≡ true → SFits w32 z
unfolding fits32
in32 z e = record { sfits = ltb-true (mag z) (2 ^ 31) e }

-- a number of the width w cast to another that holds it
module _ (w v : Width) (z : ℤ) (f : SFits w z) (g : SFits v z) where
  pub cast_fits : SFits v (to_z w (of_z w z))
  cast_fits = rw (to_z-of_z w z f) g

  pub cast_is : to_z v (of_z v (to_z w (of_z w z))) ≡ z
  cast_is = rw (to_z-of_z w z f) (to_z-of_z v z g)
