-- What the bytes of a record name is what its value names.
use mathlib.Core.Path.{◌≡◌, refl, ap, subst}
use mathlib.Core.Bool.{Bool, true, false}
use mathlib.Core.List.{List, [], ◌++◌}
use Prim.Native.Nat.{ℕ, ◌+◌}
use native.Mathlib.Omega.{arith}
use borrow.Author.Tests.{eqb-true}
use lib.Dec.{eqb}
use mir.Syntax.{w32}
use Rattle.wire.specs.Pick.{pick}
use Rattle.wire.specs.Le.{byte_at, unsigned_at}
use Rattle.ir.specs.declared.Instruction.{Instruction}
use Rattle.ir.specs.declared.Terminator.TheVariants.{Return, Jump, Branch}
use Rattle.operand.specs.Operand.{operand_in}
use Rattle.record.specs.Frame.{kind_at}
use Rattle.record.specs.Instruction.{count_in}
use Rattle.unitfile.specs.Unit.{PlacedInstruction}
use Rattle.recordparts.specs.Terminator.{terminator_in}
use Rattle.recordparts.specs.Stands.{InstructionAt}
use Rattle.survey.specs.Occurrences.{Occurrence, of_operand, of_instruction, of_instructions, of_terminator}
use Rattle.survey.specs.Inner.{of_instruction_in, of_terminator_in, Names, done, next}
use Rattle.survey.specs.Standing as standing
use Rattle.survey.specs.Standing.{Chain}

module _ (b : List ℕ) (place : ℕ) where
  instruction_names : (i : Instruction) → InstructionAt b place i → of_instruction_in b place ≡ of_instruction place i
  unfolding of_instruction_in of_instruction of_operand count_in
  instruction_names i p =
      let count : place + 4 + 6 ≡ place + 10 = omega arith in
      rw (p.result, p.list, count)

  pub terminator_names : of_terminator_in b place ≡ of_terminator place (terminator_in b (place + 4))
  unfolding of_terminator_in of_terminator terminator_in
  terminator_names = go (eqb (byte_at b (place + 4)) 0) (eqb (byte_at b (place + 4)) 1) refl refl
    where
      same : of_operand place (operand_in b (place + 5)) ≡ of_operand place (operand_in b (place + 4 + 1))
      same =
          let e : place + 5 ≡ place + 4 + 1 = omega arith in
          ap (λ (i : ℕ). of_operand place (operand_in b i)) e

      go : (z o : Bool) → eqb (byte_at b (place + 4)) 0 ≡ z → eqb (byte_at b (place + 4)) 1 ≡ o → pick o [] (of_operand place (operand_in b (place + 5))) ≡ of_terminator place (pick z (Return (operand_in b (place + 4 + 1))) (pick o (Jump (unsigned_at w32 b (place + 4 + 1))) (Branch (operand_in b (place + 4 + 1)) (unsigned_at w32 b (place + 4 + 10)) (unsigned_at w32 b (place + 4 + 14)))))
      go true true p q = absurd (omega (arith, eqb-true (byte_at b (place + 4)) 0 p, eqb-true (byte_at b (place + 4)) 1 q))
      go true false p q = same
      go false true p q = refl
      go false false p q = same

-- the instructions that stand from a byte to the byte end, where a terminator stands
pub chain_names : {b : List ℕ} {end at : ℕ} {is : List PlacedInstruction} → kind_at b end ≡ 5 → Chain b end at is → Names b end at (of_instructions is)
unfolding of_instructions
chain_names t standing.done = done (λ e. omega arith)
chain_names {b} {end} {at} t (standing.next {i = i} {is = is} h l c) =
    subst (λ (os : List Occurrence). Names b end at (os ++ of_instructions is)) (instruction_names b at i h) (next h.kind (chain_names t c))
