-- What the instruction becomes that stands in a payload known to be one's: result, opcode by its code, operands by their count.
use Rattle.std.specs.Prelude.{ℕ, Bool, List}
use Rattle.std.specs.Int.{w32}
use Rattle.wire.specs.Le.{byte_at, unsigned_at}
use Rattle.ir.specs.declared.Opcode.{Opcode}
use Rattle.ir.specs.declared.Operand.{Operand}
use Rattle.operand.specs.Operand.{operands_in}
use Rattle.opcode.specs.Opcode.{opcode_in}
use Rattle.record.specs.Instruction.{fields_in}
use Rattle.frame.specs.Cell.{Frame}
use Rattle.lower.specs.Op.{Lowered}
use Rattle.lower.specs.Instruction.{opcode, scratch_by}

-- the variable that keeps the result, and the operands in a payload: how many, and which
abbrev pub result_in : List ℕ → ℕ
result_in p = unsigned_at w32 p 0

abbrev pub count_in : List ℕ → ℕ
count_in p = byte_at p 6

unfoldable pub operands_of : List ℕ → List Operand
operands_of p = operands_in p 16 (count_in p)

-- the instruction in a payload, with an opcode
abbrev pub instruction_as : Frame → ℕ → Bool → Opcode → List ℕ → Lowered
instruction_as f j condition o p = opcode f j condition (result_in p) o (operands_of p)

unfoldable pub instruction_in : Frame → ℕ → Bool → List ℕ → Lowered
instruction_in f j condition p = instruction_as f j condition (opcode_in (fields_in p 0)) p

-- the scratch position after it
unfoldable pub scratch_in : ℕ → List ℕ → ℕ
scratch_in j p = scratch_by j (opcode_in (fields_in p 0)) (operands_of p)
