-- `shurtenbo_decode` leaves the fields of the instruction that `decode` answers.
use mathlib.Core.Path.{ap, sym, ◌∙◌}
use Rattle.shurtenbo.specs.Insns.{decoded_numbers, decoded_fields}
use Rattle.shurtenbo.proofs.insns.shurtenbo_decode.Goals as goal
use Rattle.insn.specs.declared.Fault.{Fault}
use Rattle.insn.specs.declared.Insn.{Insn}
use Rattle.std.specs.Prelude.{Result}

pub returns-in-Ok : goal.returns-in-Ok
unfolding decoded_numbers decoded_fields
returns-in-Ok c = let is = sym c.in-Ok.is ∙ c.decode.ensures in record { answer_after = c.done.ensures ∙ ap decoded_numbers is; fields_after = c.put_fields.ensures ∙ ap (λ (d : Result Insn Fault). decoded_fields d c.args.fields.now) is }

pub returns-in-Err-NotEight : goal.returns-in-Err-NotEight
unfolding decoded_numbers decoded_fields
returns-in-Err-NotEight c = let is = sym c.in-Err-NotEight.is ∙ c.decode.ensures in record { answer_after = c.only.ensures ∙ ap decoded_numbers is; fields_after = ap (λ (d : Result Insn Fault). decoded_fields d c.args.fields.now) is }
