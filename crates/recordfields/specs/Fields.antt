-- A record's value as numbers, padded with zeros to 24. A signed number is the word of its 64 bits, in two's complement.
use Rattle.std.specs.Prelude.{ℕ, List, [], ◌∷◌, length, replicate}
use Rattle.std.proofs.lemmas.List.Edits.{sets}
use Rattle.std.specs.Int.{w64}
use Rattle.std.proofs.Common.{of_z}
use Rattle.ir.specs.Operands.{list_of}
use Rattle.ir.specs.declared.Operand.{Operand}
use Rattle.ir.specs.declared.Operand.TheVariants.{Var, Immediate}
use Rattle.ir.specs.declared.Terminator.{Terminator}
use Rattle.ir.specs.declared.Terminator.TheVariants.{Return, Jump, Branch}
use Rattle.opcode.specs.Opcode.{fields_of as opcodeFields}
use Rattle.opcode.specs.declared.Fields.{Fields}
use Rattle.record.specs.declared.Record.{Record}
use Rattle.record.specs.declared.Record.TheVariants as R

-- an operand: tag 0 and the variable, or tag 1 and the immediate
unfoldable pub tag_of : Operand → ℕ
tag_of (Var v) = 0
tag_of (Immediate z) = 1

unfoldable pub value_of : Operand → ℕ
value_of (Var v) = v
value_of (Immediate z) = of_z w64 z

unfoldable pub operands_numbers : List Operand → List ℕ
operands_numbers [] = []
operands_numbers (o ∷ os) = tag_of o ∷ value_of o ∷ operands_numbers os

-- kind 4, result, opcode, small, offset, number, operand count, then tag and value of each operand
unfoldable pub instruction_numbers : ℕ → Fields → List Operand → List ℕ
instruction_numbers result f os = 4 ∷ result ∷ f.code ∷ f.small ∷ of_z w64 f.offset ∷ f.number ∷ length os ∷ operands_numbers os

-- form 0 return, operand; 1 jump, target; 2 branch, condition operand, true, false
unfoldable pub terminator_numbers : Terminator → List ℕ
terminator_numbers (Return o) = 0 ∷ tag_of o ∷ value_of o ∷ []
terminator_numbers (Jump target) = 1 ∷ target ∷ []
terminator_numbers (Branch o to other) = 2 ∷ tag_of o ∷ value_of o ∷ to ∷ other ∷ []

-- kind 1 head, edition, maps, blocks; 2 map, where its name lies; 3 block, id; 4 instruction; 5 terminator
unfoldable pub record_numbers : Record → List ℕ
record_numbers (R.Head h) = 1 ∷ h.edition ∷ h.maps ∷ h.blocks ∷ []
record_numbers (R.Map start len) = 2 ∷ start ∷ len ∷ []
record_numbers (R.Block id) = 3 ∷ id ∷ []
record_numbers (R.Instruction i) = instruction_numbers i.result (opcodeFields i.opcode) (list_of i.operands)
record_numbers (R.Terminator t) = 5 ∷ terminator_numbers t

unfoldable pub padded : List ℕ → List ℕ
padded l = sets (replicate 24 0) 0 l

unfoldable pub fields_of : Record → List ℕ
fields_of r = padded (record_numbers r)
