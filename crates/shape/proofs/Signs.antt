-- Signed numbers as the code meets them.
use mathlib.Core.Path.{◌≡◌, refl}
use Prim.Native.Nat.{suc, ◌-◌, ◌^◌}
use native.Mathlib.Omega.{arith}
use lib.Dec.{eqb}
use lib.IntN.{ℤ, pos, negsuc}
use borrow.Author.Tests.{ne_eqb}
use mir.Syntax.{Width}
use mir.Val.{SFits, of_z, bits}
use mir.ValLaws.{pow-bits}
use Rattle.wire.specs.Pick.{is_zero}

-- the bits of a number are 0 where it is 0
pub zero_bits : (w : Width) (z : ℤ) → SFits w z → eqb (of_z w z) 0 ≡ is_zero z
unfolding is_zero
zero_bits w (pos n) f = refl
zero_bits w (negsuc n) f = ne_eqb (2 ^ bits w - suc n) 0 (λ e. omega (arith, pow-bits w, f.sfits))
