-- The terminator in a payload that is known to be one's: the form says which it is.
use Rattle.std.specs.Prelude.{ℕ, ◌+◌, List, eqb}
use Rattle.std.specs.Int.{w32}
use Rattle.wire.specs.Pick.{pick}
use Rattle.wire.specs.Le.{byte_at, unsigned_at}
use Rattle.ir.specs.declared.Terminator.{Terminator}
use Rattle.ir.specs.declared.Terminator.TheVariants.{Return, Jump, Branch}
use Rattle.operand.specs.Operand.{operand_in}

unfoldable pub terminator_in : List ℕ → ℕ → Terminator
terminator_in b at =
    pick (eqb (byte_at b at) 0) (Return (operand_in b (at + 1)))
    (pick (eqb (byte_at b at) 1) (Jump (unsigned_at w32 b (at + 1))) (Branch (operand_in b (at + 1)) (unsigned_at w32 b (at + 10)) (unsigned_at w32 b (at + 14))))
