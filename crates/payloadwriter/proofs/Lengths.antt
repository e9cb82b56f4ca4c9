-- How many bytes the payloads have.
use mathlib.Core.Path.{◌≡◌, ap}
use mathlib.Core.List.{List}
use Prim.Native.Nat.{ℕ, suc, ◌+◌, ◌*◌}
use native.Mathlib.Omega.{arith}
use lib.ListN.{length, length-append}
use mir.Syntax.{w32}
use Rattle.wire.proofs.Le.{unsigned_length, signed_length}
use Rattle.ir.specs.declared.Operand.{Operand}
use Rattle.ir.specs.declared.Terminator.{Terminator}
use Rattle.ir.specs.declared.Terminator.TheVariants.{Return, Jump, Branch}
use Rattle.opcode.specs.declared.Fields.{Fields}
use Rattle.operand.proofs.OperandBytes.{operand_length, operands_length}
use Rattle.payloadwriter.specs.Payloads.{instruction_bytes, terminator_bytes}

pub instruction_length : (result : ℕ) (f : Fields) (os : List Operand) → length (instruction_bytes result f os) ≡ 16 + 9 * length os
unfolding instruction_bytes
instruction_length result f os = simp (length-append, unsigned_length, signed_length) (omega (arith, operands_length os))

-- a terminator's, where its form is known
pub return_length : {t : Terminator} {o : Operand} → t ≡ Return o → length (terminator_bytes t) ≡ 10
unfolding terminator_bytes
return_length {t} {o} e = rw e (ap suc (operand_length o))

pub jump_length : {t : Terminator} {target : ℕ} → t ≡ Jump target → length (terminator_bytes t) ≡ 5
unfolding terminator_bytes
jump_length {t} {target} e = rw e (ap suc (unsigned_length w32 target))

pub branch_length : {t : Terminator} {o : Operand} {to other : ℕ} → t ≡ Branch o to other → length (terminator_bytes t) ≡ 18
unfolding terminator_bytes
branch_length e = rw e (simp (length-append, operand_length, unsigned_length))
