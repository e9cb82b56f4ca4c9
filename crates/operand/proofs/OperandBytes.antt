-- How many bytes operands have, and how they are written one after the other.
use mathlib.Core.Path.{◌≡◌, refl, sym, ap, ◌∙◌}
use mathlib.Core.List.{List, [], ◌∷◌}
use Prim.Native.Nat.{ℕ, suc, ◌+◌, ◌*◌, ◌≤◌}
use native.Mathlib.Omega.{arith}
use lib.ListN.{length, length-append}
use Rattle.wire.specs.Le.{store}
use Rattle.wire.proofs.Le.{unsigned_length, signed_length}
use Rattle.ir.specs.Operands.{list_of, first_of, rest_of}
use Rattle.ir.specs.declared.Operand.{Operand}
use Rattle.ir.specs.declared.Operand.TheVariants.{Var, Immediate}
use Rattle.ir.specs.declared.operands.Operands.{Operands}
use Rattle.ir.proofs.OperandLaws.{first_is, first_nothing}
use Rattle.operand.specs.Operand.{operand_bytes, operands_bytes}
use Rattle.operand.proofs.Pieces.{Puts, ◌▸◌, nothing}
use Rattle.std.specs.Prelude.{None, Some}

pub operand_length : (o : Operand) → length (operand_bytes o) ≡ 9
unfolding operand_bytes
operand_length (Var v) = simp (length-append, unsigned_length)
operand_length (Immediate z) = simp signed_length

pub operands_length : (os : List Operand) → length (operands_bytes os) ≡ 9 * length os
unfolding operands_bytes
operands_length [] = refl
operands_length (o ∷ os) = simp length-append (omega (arith, operand_length o, operands_length os))

pub operand : {b c : List ℕ} {at : ℕ} (o : Operand) → c ≡ store b at (operand_bytes o) → Puts b at 9 (operand_bytes o) c
operand o e = record { size = operand_length o; left = λ h. e }

pub operands : {b c : List ℕ} {at : ℕ} (os : List Operand) → c ≡ store b at (operands_bytes os) → Puts b at (9 * length os) (operands_bytes os) c
operands os e = record { size = operands_length os; left = λ h. e }

-- where there is a first operand, it is one more than the rest
pub first_counted : (l : Operands) (o : Operand) → first_of l ≡ Some o → length (list_of l) ≡ suc (length (list_of (rest_of l)))
first_counted l o f = ap length (first_is l o f)

-- the first operand is written, the rest are left
pub operand_step : (l : Operands) (o : Operand) (b : List ℕ) (i : ℕ) {c : List ℕ} → first_of l ≡ Some o → c ≡ store b i (operand_bytes o) → i + 9 * length (list_of l) ≤ length b → store c (i + 9) (operands_bytes (list_of (rest_of l))) ≡ store b i (operands_bytes (list_of l))
unfolding operands_bytes
operand_step l o b i f e h =
    let s : list_of l ≡ o ∷ list_of (rest_of l) = first_is l o f in
    (operand o e ▸ operands (list_of (rest_of l)) refl).left (omega (arith, ap length s)) ∙ ap (λ (x : List Operand). store b i (operands_bytes x)) (sym s)

pub operand_end : (l : Operands) (b : List ℕ) (i : ℕ) → first_of l ≡ None → b ≡ store b i (operands_bytes (list_of l))
unfolding operands_bytes
operand_end l b i f = nothing b i ∙ ap (λ (x : List Operand). store b i (operands_bytes x)) (sym (first_nothing l f))
