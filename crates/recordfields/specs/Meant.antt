-- Which record 24 numbers mean in a unit of so many maps, or none. Each number must lie within its type; those after the ones that a record uses are not looked at.
use Rattle.std.specs.Prelude.{ℕ, zero, suc, ◌+◌, ◌^◌, true, List, ◌≡◌, eqb, leb, ltb, get_or, None, Option, Some}
use Rattle.std.specs.Int.{w64}
use Rattle.std.proofs.Common.{to_z}
use Rattle.wire.specs.Pick.{pick, both}
use Rattle.wire.specs.Range.{fits32}
use Rattle.ir.specs.Operands.{pushed}
use Rattle.ir.specs.declared.Operand.TheVariants.{Var, Immediate}
use Rattle.ir.specs.declared.operands.Operands.{Operands}
use Rattle.ir.specs.declared.operands.Operands.TheVariants.{Zero}
use Rattle.ir.specs.declared.Terminator.TheVariants.{Jump}
use Rattle.opcode.specs.Opcode.{map_ok, opcode_of}
use Rattle.operand.specs.Operand.{on_operand}
use Rattle.record.specs.Instruction.{joined}
use Rattle.record.specs.Terminator.{returning, branching}
use Rattle.record.specs.Payload.{of_instruction, of_terminator}
use Rattle.record.specs.declared.Record.{Record}
use Rattle.record.specs.declared.Record.TheVariants as R
use Rattle.ir.specs.declared.Opcode.{Opcode}
use Rattle.ir.specs.declared.Operand.{Operand}

abbrev pub at : List ℕ → ℕ → ℕ
at fs i = get_or fs i 0

-- tag 0 and a variable, or tag 1 and an immediate
unfoldable pub operand_from : ℕ → ℕ → Option Operand
operand_from tag value =
    pick (eqb tag 0) (pick (ltb value (2 ^ 32)) (Some (Var value)) None)
    (pick (eqb tag 1) (Some (Immediate (to_z w64 value))) None)

-- the operands l and the k from number i on
unfoldable pub operands_from : Operands → List ℕ → ℕ → ℕ → Option Operands
operands_from l fs i zero = Some l
operands_from l fs i (suc k) = on_operand (operand_from (at fs i) (at fs (i + 1))) (λ o. operands_from (pushed l o) fs (i + 2) k)

unfoldable pub opcode_from : ℕ → ℕ → ℕ → ℕ → ℕ → Option Opcode
opcode_from maps code small offset number =
    pick (both (ltb code 256) (both (ltb small 256) (both (fits32 (to_z w64 offset)) (ltb number (2 ^ 32)))))
    (opcode_of (record { code = code; small = small; offset = to_z w64 offset; number = number }) maps) None

unfoldable pub head_from : ℕ → ℕ → ℕ → Option Record
head_from edition maps blocks =
    pick (both (ltb edition (2 ^ 16)) (both (ltb maps (2 ^ 16)) (ltb blocks (2 ^ 32))))
    (Some (R.Head (record { edition = edition; maps = maps; blocks = blocks }))) None

unfoldable pub block_from : ℕ → Option Record
block_from id = pick (ltb id (2 ^ 32)) (Some (R.Block id)) None

-- result, opcode, small, offset, number, operand count, then the operands
unfoldable pub instruction_from : ℕ → List ℕ → Option Record
instruction_from maps fs =
    pick (both (ltb (at fs 1) (2 ^ 32)) (leb (at fs 6) 8))
    (of_instruction (joined (at fs 1) (opcode_from maps (at fs 2) (at fs 3) (at fs 4) (at fs 5)) (operands_from Zero fs 7 (at fs 6)))) None

unfoldable pub jump_from : ℕ → Option Record
jump_from target = pick (ltb target (2 ^ 32)) (Some (R.Terminator (Jump target))) None

unfoldable pub branch_from : Option Operand → ℕ → ℕ → Option Record
branch_from o to other = pick (both (ltb to (2 ^ 32)) (ltb other (2 ^ 32))) (of_terminator (branching o to other)) None

-- form 0 return, 1 jump, 2 branch
unfoldable pub terminator_from : List ℕ → Option Record
terminator_from fs =
    pick (eqb (at fs 1) 0) (of_terminator (returning (operand_from (at fs 2) (at fs 3))))
    (pick (eqb (at fs 1) 1) (jump_from (at fs 2))
    (pick (eqb (at fs 1) 2) (branch_from (operand_from (at fs 2) (at fs 3)) (at fs 4) (at fs 5)) None))

-- by its kind
unfoldable pub record_from : ℕ → List ℕ → Option Record
record_from maps fs =
    pick (eqb (at fs 0) 1) (head_from (at fs 1) (at fs 2) (at fs 3))
    (pick (eqb (at fs 0) 2) (Some (R.Map (at fs 1) (at fs 2)))
    (pick (eqb (at fs 0) 3) (block_from (at fs 1))
    (pick (eqb (at fs 0) 4) (instruction_from maps fs)
    (pick (eqb (at fs 0) 5) (terminator_from fs) None))))

-- a record's map, if it has one, is one of so many
abbrev pub MapsOk : ℕ → Record → Type 0
MapsOk maps (R.Head h) = Unit {0}
MapsOk maps (R.Map start len) = Unit {0}
MapsOk maps (R.Block id) = Unit {0}
MapsOk maps (R.Instruction i) = map_ok maps i.opcode ≡ true
MapsOk maps (R.Terminator t) = Unit {0}
