-- An instruction's payload: u32 result, u8 opcode, u8 small, u8 operand count k (0 to 8), u8 zero, i32 offset, u32 number, k operands.
use Rattle.std.specs.Prelude.{ℕ, ◌+◌, ◌*◌, Bool, List, eqb, leb, pos, length, None, Option, Some}
use Rattle.std.specs.Int.{w32}
use Rattle.wire.specs.Pick.{pick, both}
use Rattle.wire.specs.Le.{byte_at, unsigned_at, signed_at}
use Rattle.ir.specs.declared.operands.Operands.TheVariants.{Zero}
use Rattle.operand.specs.Operand.{operands_at}
use Rattle.opcode.specs.Opcode.{opcode_of}
use Rattle.opcode.specs.declared.Fields.{Fields}
use Rattle.ir.specs.declared.Instruction.{Instruction}
use Rattle.ir.specs.declared.Opcode.{Opcode}
use Rattle.ir.specs.declared.operands.Operands.{Operands}

-- the four fields
unfoldable pub fields_in : List ℕ → ℕ → Fields
fields_in b at = record { code = byte_at b (at + 4); small = byte_at b (at + 5); offset = signed_at w32 b (at + 8); number = unsigned_at w32 b (at + 12) }

-- the same; zeros where a payload does not lie in b
unfoldable pub fields_within : List ℕ → ℕ → Fields
fields_within b at = pick (leb (at + 16) (length b)) (fields_in b at) (record { code = 0; small = 0; offset = pos 0; number = 0 })

unfoldable pub count_in : List ℕ → ℕ → ℕ
count_in b at = byte_at b (at + 6)

unfoldable pub joined : ℕ → Option Opcode → Option Operands → Option Instruction
joined result (Some o) (Some l) = Some (record { result = result; opcode = o; operands = l })
joined result (Some o) None = None
joined result None (Some l) = None
joined result None None = None

-- the payload of len bytes at a byte is as long as its operand count asks, and has its zero
unfoldable pub sized : List ℕ → ℕ → ℕ → Bool
sized b at len = both (leb 16 len) (both (leb (count_in b at) 8) (both (eqb len (16 + 9 * count_in b at)) (eqb (byte_at b (at + 7)) 0)))

-- the same, and the payload lies in b
unfoldable pub sized_within : List ℕ → ℕ → ℕ → Bool
sized_within b at len = both (leb (at + len) (length b)) (sized b at len)

unfoldable pub instruction_at : List ℕ → ℕ → ℕ → ℕ → Option Instruction
instruction_at b at len maps =
    pick (sized b at len) (joined (unsigned_at w32 b at) (opcode_of (fields_in b at) maps) (operands_at Zero b (at + 16) (count_in b at))) None
