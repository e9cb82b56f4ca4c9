-- The variables of a unit over all blocks, reached or not: results of every instruction, operands, return and condition variables.
use Rattle.std.specs.Prelude.{ℕ, List, [], ◌∷◌, ◌++◌}
use Rattle.ir.specs.Operands.{list_of}
use Rattle.ir.specs.declared.Operand.{Operand}
use Rattle.ir.specs.declared.Operand.TheVariants.{Var, Immediate}
use Rattle.ir.specs.declared.Instruction.{Instruction}
use Rattle.ir.specs.declared.Terminator.{Terminator}
use Rattle.ir.specs.declared.Terminator.TheVariants.{Return, Jump, Branch}
use Rattle.unitfile.specs.Unit.{PlacedInstruction, BasicBlock}

-- a variable, and the place of the record that names it
pub record Occurrence : Type 0 where
  pub place : ℕ
  pub variable : ℕ

unfoldable pub of_operand : ℕ → Operand → List Occurrence
of_operand place (Var v) = record { place = place; variable = v } ∷ []
of_operand place (Immediate z) = []

unfoldable pub of_operands : ℕ → List Operand → List Occurrence
of_operands place [] = []
of_operands place (o ∷ os) = of_operand place o ++ of_operands place os

unfoldable pub of_instruction : ℕ → Instruction → List Occurrence
of_instruction place i = record { place = place; variable = i.result } ∷ of_operands place (list_of i.operands)

unfoldable pub of_instructions : List PlacedInstruction → List Occurrence
of_instructions [] = []
of_instructions (p ∷ ps) = of_instruction p.place p.instruction ++ of_instructions ps

unfoldable pub of_terminator : ℕ → Terminator → List Occurrence
of_terminator place (Return o) = of_operand place o
of_terminator place (Jump target) = []
of_terminator place (Branch o to other) = of_operand place o

unfoldable pub occurrences : List BasicBlock → List Occurrence
occurrences [] = []
occurrences (b ∷ bs) = of_instructions b.instructions ++ of_terminator b.ending b.terminator ++ occurrences bs
