-- What an instruction takes: its slots and its map, or why it is refused.
use Rattle.std.specs.Prelude.{ℕ, Bool, List, pos, Result, Some}
use Rattle.std.specs.Int.{w32}
use Rattle.wire.specs.Le.{unsigned_at}
use Rattle.ir.specs.declared.Opcode.{Opcode}
use Rattle.frame.specs.Cell.{Frame}
use Rattle.lower.specs.Instruction.{opcode}
use Rattle.lower.specs.Payload.{instruction_in, operands_of}
use Rattle.lower.specs.Held.{held}
use Rattle.lower.specs.declared.Emitted.{Emitted}
use Rattle.lower.specs.declared.Reason.{Reason}

-- a frame that has a cell for every variable: what an instruction takes does not hang on where its cells lie
unfoldable pub every_cell : Frame
every_cell = record { cell = λ v. Some (pos 0); scratch = λ j. pos 0 }

-- what the instruction in a payload takes in such a frame, or why it is refused
unfoldable pub size_in : Bool → List ℕ → Result Emitted Reason
size_in condition p = held (instruction_in every_cell 0 condition p)

-- the same, by its opcode
unfoldable pub size_by : Bool → Opcode → List ℕ → Result Emitted Reason
size_by condition o p = held (opcode every_cell 0 condition (unsigned_at w32 p 0) o (operands_of p))
