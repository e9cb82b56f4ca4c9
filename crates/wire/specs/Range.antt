-- The ranges of 16 and of 32 bits, signed.
use Rattle.std.specs.Prelude.{◌^◌, Bool, ltb, ℤ}
use Rattle.std.specs.Int.Signed.{mag}

-- a number that i16, or i32, holds
unfoldable pub fits16 : ℤ → Bool
fits16 z = ltb (mag z) (2 ^ 15)

unfoldable pub fits32 : ℤ → Bool
fits32 z = ltb (mag z) (2 ^ 31)
