-- A payload that is one is that of a record of the kind that was found.
use mathlib.Core.Path.{◌≡◌, refl, sym, ap, ◌∙◌, subst}
use mathlib.Core.List.{List}
use Prim.Native.Nat.{ℕ}
use native.Mathlib.Omega.{arith}
use borrow.Author.Tests.{eqb-true}
use lib.Dec.{eqb, leb}
use Rattle.wire.specs.Pick.{both}
use Rattle.record.specs.Instruction.{instruction_at}
use Rattle.record.specs.Terminator.{terminator_at}
use Rattle.record.specs.Payload.{head_in, head_ok, of_instruction, of_terminator, payload_at, kind_of}
use Rattle.record.specs.declared.Record.{Record}
use Rattle.record.specs.declared.Record.TheVariants as R
use Rattle.record.proofs.RecordLaws.{either}
use Rattle.ir.specs.declared.Instruction.{Instruction}
use Rattle.ir.specs.declared.Terminator.{Terminator}
use Rattle.std.specs.Prelude.{None, Option, Some}

-- a payload, where it is one, is that of a record of a kind
record Kinded (kind : ℕ) (p : Option Record) : Type 0 where
  kinded : (r : Record) → p ≡ Some r → kind_of r ≡ kind

broken_kind : (kind : ℕ) → Kinded kind None
broken_kind kind = record { kinded = λ r e. let z : ◌≡◌ {A = ℕ} 0 1 = cc in absurd (omega arith) }

value_kind : (r : Record) (kind : ℕ) → kind_of r ≡ kind → Kinded kind (Some r)
value_kind r kind h = record { kinded = λ q e. let s : r ≡ q = cc in ap kind_of (sym s) ∙ h }

instruction_kind : (x : Option Instruction) → Kinded 4 (of_instruction x)
unfolding of_instruction kind_of
instruction_kind (Some i) = value_kind (R.Instruction i) 4 refl
instruction_kind None = broken_kind 4

terminator_kind : (x : Option Terminator) → Kinded 5 (of_terminator x)
unfolding of_terminator kind_of
terminator_kind (Some t) = value_kind (R.Terminator t) 5 refl
terminator_kind None = broken_kind 5

module _ (kind : ℕ) (b : List ℕ) (at len maps : ℕ) where
  payload_kind : Kinded kind (payload_at kind b at len maps)
  unfolding payload_at kind_of
  payload_kind =
      either (Kinded kind) (eqb kind 1) _ _
      (λ k. either (Kinded kind) (both (eqb len 8) (head_ok (head_in b at))) _ _ (λ _. value_kind _ kind (sym (eqb-true kind 1 k))) (broken_kind kind))
      (either (Kinded kind) (eqb kind 2) _ _
      (λ k. either (Kinded kind) (leb len 64) _ _ (λ _. value_kind _ kind (sym (eqb-true kind 2 k))) (broken_kind kind))
      (either (Kinded kind) (eqb kind 3) _ _
      (λ k. either (Kinded kind) (eqb len 4) _ _ (λ _. value_kind _ kind (sym (eqb-true kind 3 k))) (broken_kind kind))
      (either (Kinded kind) (eqb kind 4) _ _
      (λ k. subst (λ (n : ℕ). Kinded n (of_instruction (instruction_at b at len maps))) (sym (eqb-true kind 4 k)) (instruction_kind (instruction_at b at len maps)))
      (either (Kinded kind) (eqb kind 5) _ _
      (λ k. subst (λ (n : ℕ). Kinded n (of_terminator (terminator_at b at len))) (sym (eqb-true kind 5 k)) (terminator_kind (terminator_at b at len)))
      (broken_kind kind)))))

  pub kind_of_lem : (r : Record) → payload_at kind b at len maps ≡ Some r → kind_of r ≡ kind
  kind_of_lem r e = payload_kind.kinded r e
