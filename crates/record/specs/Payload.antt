-- What a payload of each kind says: 1 head, 2 map, 3 block, 4 instruction, 5 terminator.
use Rattle.std.specs.Prelude.{ℕ, ◌+◌, Bool, List, eqb, leb, None, Option, Some}
use Rattle.std.specs.Int.{w16, w32}
use Rattle.wire.specs.Pick.{pick, both}
use Rattle.wire.specs.Le.{unsigned_at}
use Rattle.record.specs.Instruction.{instruction_at}
use Rattle.record.specs.Terminator.{terminator_at}
use Rattle.record.specs.declared.Head.{Head}
use Rattle.record.specs.declared.Record.{Record}
use Rattle.record.specs.declared.Record.TheVariants as R
use Rattle.ir.specs.declared.Instruction.{Instruction}
use Rattle.ir.specs.declared.Terminator.{Terminator}

-- u16 edition, u16 maps, u32 blocks
unfoldable pub head_in : List ℕ → ℕ → Head
head_in b at = record { edition = unsigned_at w16 b at; maps = unsigned_at w16 b (at + 2); blocks = unsigned_at w32 b (at + 4) }

-- edition 1, 0 to 64 maps, 0 to 1,024 blocks
unfoldable pub head_ok : Head → Bool
head_ok h = both (eqb h.edition 1) (both (leb h.maps 64) (leb h.blocks 1024))

unfoldable pub of_instruction : Option Instruction → Option Record
of_instruction (Some i) = Some (R.Instruction i)
of_instruction None = None

unfoldable pub of_terminator : Option Terminator → Option Record
of_terminator (Some t) = Some (R.Terminator t)
of_terminator None = None

-- the payload of len bytes at a byte, in a unit of so many maps
unfoldable pub payload_at : ℕ → List ℕ → ℕ → ℕ → ℕ → Option Record
payload_at kind b at len maps =
    pick (eqb kind 1) (pick (both (eqb len 8) (head_ok (head_in b at))) (Some (R.Head (head_in b at))) None)
    (pick (eqb kind 2) (pick (leb len 64) (Some (R.Map at len)) None)
    (pick (eqb kind 3) (pick (eqb len 4) (Some (R.Block (unsigned_at w32 b at))) None)
    (pick (eqb kind 4) (of_instruction (instruction_at b at len maps))
    (pick (eqb kind 5) (of_terminator (terminator_at b at len)) None))))

-- the kind of the record that has a value
unfoldable pub kind_of : Record → ℕ
kind_of (R.Head h) = 1
kind_of (R.Map start len) = 2
kind_of (R.Block id) = 3
kind_of (R.Instruction i) = 4
kind_of (R.Terminator t) = 5
