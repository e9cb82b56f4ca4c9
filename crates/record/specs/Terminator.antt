-- A terminator's payload: u8 form: 0 return, operand (10 bytes); 1 jump, u32 target (5); 2 branch, condition operand, u32 true, u32 false (18).
use Rattle.std.specs.Prelude.{ℕ, ◌+◌, List, eqb, None, Option, Some}
use Rattle.std.specs.Int.{w32}
use Rattle.wire.specs.Pick.{pick, both}
use Rattle.wire.specs.Le.{byte_at, unsigned_at}
use Rattle.ir.specs.declared.Terminator.{Terminator}
use Rattle.ir.specs.declared.Terminator.TheVariants.{Return, Jump, Branch}
use Rattle.operand.specs.Operand.{operand_at}
use Rattle.ir.specs.declared.Operand.{Operand}

unfoldable pub returning : Option Operand → Option Terminator
returning (Some o) = Some (Return o)
returning None = None

unfoldable pub branching : Option Operand → ℕ → ℕ → Option Terminator
branching (Some o) to other = Some (Branch o to other)
branching None to other = None

unfoldable pub terminator_at : List ℕ → ℕ → ℕ → Option Terminator
terminator_at b at len =
    pick (both (eqb len 10) (eqb (byte_at b at) 0)) (returning (operand_at b (at + 1)))
    (pick (both (eqb len 5) (eqb (byte_at b at) 1)) (Some (Jump (unsigned_at w32 b (at + 1))))
    (pick (both (eqb len 18) (eqb (byte_at b at) 2)) (branching (operand_at b (at + 1)) (unsigned_at w32 b (at + 10)) (unsigned_at w32 b (at + 14))) None))

-- how many bytes a terminator's payload has
unfoldable pub terminator_size : Terminator → ℕ
terminator_size (Return o) = 10
terminator_size (Jump to) = 5
terminator_size (Branch o to other) = 18
