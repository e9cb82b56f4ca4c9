-- The bytes of an instruction's payload and of a terminator's.
use Rattle.std.specs.Prelude.{ℕ, List, [], ◌∷◌, ◌++◌, length}
use Rattle.std.specs.Int.{w32}
use Rattle.wire.specs.Le.{unsigned_bytes, signed_bytes}
use Rattle.ir.specs.declared.Operand.{Operand}
use Rattle.ir.specs.declared.Terminator.{Terminator}
use Rattle.ir.specs.declared.Terminator.TheVariants.{Return, Jump, Branch}
use Rattle.opcode.specs.declared.Fields.{Fields}
use Rattle.operand.specs.Operand.{operand_bytes, operands_bytes}

-- u32 result, u8 opcode, u8 small, u8 operand count, u8 zero, i32 offset, u32 number, the operands
unfoldable pub instruction_bytes : ℕ → Fields → List Operand → List ℕ
instruction_bytes result f os =
    unsigned_bytes w32 result
    ++ (f.code ∷ f.small ∷ length os ∷ 0 ∷ [])
    ++ signed_bytes w32 f.offset
    ++ unsigned_bytes w32 f.number
    ++ operands_bytes os

-- u8 form, then 0 return, operand; 1 jump, u32 target; 2 branch, condition operand, u32 true, u32 false
unfoldable pub terminator_bytes : Terminator → List ℕ
terminator_bytes (Return o) = 0 ∷ operand_bytes o
terminator_bytes (Jump target) = 1 ∷ unsigned_bytes w32 target
terminator_bytes (Branch o to other) = 2 ∷ operand_bytes o ++ unsigned_bytes w32 to ++ unsigned_bytes w32 other
