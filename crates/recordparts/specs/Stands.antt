-- Where the record of an instruction or of a terminator stands in the bytes, by its kind and its value's parts.
use Rattle.std.specs.Prelude.{◌≡◌, List, ℕ, ◌+◌, ◌*◌, ◌≤◌, length, Some}
use Rattle.std.specs.Int.{w32}
use Rattle.wire.specs.Le.{unsigned_at}
use Rattle.ir.specs.Operands.{list_of}
use Rattle.ir.specs.declared.Instruction.{Instruction}
use Rattle.ir.specs.declared.Terminator.{Terminator}
use Rattle.ir.specs.declared.operands.Operands.TheVariants.{Zero}
use Rattle.opcode.specs.Opcode.{opcode_in}
use Rattle.operand.specs.Operand.{operands_at, operands_in}
use Rattle.record.specs.Frame.{kind_at}
use Rattle.record.specs.Instruction.{fields_in, count_in}
use Rattle.record.specs.Terminator.{terminator_size}
use Rattle.recordparts.specs.Terminator.{terminator_in}

-- the record of the instruction i begins at a byte
pub record InstructionAt (b : List ℕ) (at : ℕ) (i : Instruction) : Type 0 where
  pub kind : kind_at b at ≡ 4
  pub result : i.result ≡ unsigned_at w32 b (at + 4)
  pub opcode : i.opcode ≡ opcode_in (fields_in b (at + 4))
  pub operands : operands_at Zero b (at + 20) (count_in b (at + 4)) ≡ Some i.operands
  pub list : list_of i.operands ≡ operands_in b (at + 20) (count_in b (at + 4))
  pub count : count_in b (at + 4) ≤ 8
  pub whole : at + 20 + 9 * count_in b (at + 4) ≤ length b

-- the record of the terminator t begins at a byte
pub record TerminatorAt (b : List ℕ) (at : ℕ) (t : Terminator) : Type 0 where
  pub kind : kind_at b at ≡ 5
  pub value : terminator_in b (at + 4) ≡ t
  pub whole : at + 4 + terminator_size t ≤ length b
