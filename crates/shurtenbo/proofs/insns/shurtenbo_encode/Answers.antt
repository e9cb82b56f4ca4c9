-- `shurtenbo_encode` tells what `encode` answers.
use Rattle.insn.specs.declared.Insn.{Insn}
use Rattle.insn.specs.Layout.{encoded_bytes}
use Rattle.shurtenbo.proofs.Signed.{same_insn}
use mathlib.Core.Path.{ap, sym, ◌∙◌}
use Rattle.shurtenbo.specs.Insns.{encoded_numbers}
use Rattle.shurtenbo.proofs.insns.shurtenbo_encode.Goals as goal

pub returns-in-Ok : goal.returns-in-Ok
unfolding encoded_numbers
returns-in-Ok c = record { answer_after = c.done.ensures ∙ ap encoded_numbers (sym c.in-Ok.is ∙ c.encode.ensures.value); bytes_after = c.encode.ensures.b_after ∙ ap (λ (i : Insn). encoded_bytes i c.args.bytes.now) (same_insn _ _ _ c.args.off c.args.imm c.ranges.off c.ranges.imm) }

pub returns-in-Err-NotEight : goal.returns-in-Err-NotEight
unfolding encoded_numbers
returns-in-Err-NotEight c = record { answer_after = c.only.ensures ∙ ap encoded_numbers (sym c.in-Err-NotEight.is ∙ c.encode.ensures.value); bytes_after = c.encode.ensures.b_after ∙ ap (λ (i : Insn). encoded_bytes i c.args.bytes.now) (same_insn _ _ _ c.args.off c.args.imm c.ranges.off c.ranges.imm) }
