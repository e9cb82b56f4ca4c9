-- RFC 9669: arithmetic on numbers of 64 bits.
use Rattle.std.specs.Prelude.{ℕ, suc, ◌+◌, ◌-◌, ◌*◌, ◌/◌, ◌%◌, ◌^◌, eqb, ℤ, pos, negsuc}
use Rattle.wire.specs.Pick.{pick}
use Rattle.ir.specs.declared.BinaryOp.{BinaryOp}
use Rattle.ir.specs.declared.BinaryOp.TheVariants.{Add, Sub, Mul, Div, Mod, Shl, Shr}

-- modulo 2^64
unfoldable pub wrap : ℕ → ℕ
wrap n = n % 2 ^ 64

-- a signed number, sign-extended to 64 bits and taken as an unsigned number
unfoldable pub word : ℤ → ℕ
word (pos n) = wrap n
word (negsuc n) = 2 ^ 64 - suc n

-- the low w bytes
unfoldable pub low : ℕ → ℕ → ℕ
low w n = n % 2 ^ (8 * w)

-- the destination's value x, the operand's y. DIV gives 0 where the divisor is 0, MOD leaves the destination unchanged there;
-- a shift's count is the operand's low six bits, and Shr shifts zeros in
unfoldable pub alu : BinaryOp → ℕ → ℕ → ℕ
alu Add x y = wrap (x + y)
alu Sub x y = wrap (x + (2 ^ 64 - y))
alu Mul x y = wrap (x * y)
alu Div x y = pick (eqb y 0) 0 (x / y)
alu Mod x y = pick (eqb y 0) x (x % y)
alu Shl x y = wrap (x * 2 ^ (y % 64))
alu Shr x y = x / 2 ^ (y % 64)
