-- `shurtenbo_compile` tells what `compile_tracepoint` answers.
use mathlib.Core.Path.{ap, sym, ◌∙◌}
use Rattle.shurtenbo.specs.Answer.{numbers_of}
use Rattle.shurtenbo.specs.Units.{compiled_numbers}
use Rattle.shurtenbo.proofs.units.shurtenbo_compile.Goals as goal

pub returns-in-Ok : goal.returns-in-Ok
unfolding compiled_numbers
returns-in-Ok c =
    record { answer_after = c.done.ensures ∙ ap compiled_numbers (sym c.in-Ok.is ∙ c.compile_tracepoint.ensures.value); code_after = c.compile_tracepoint.ensures.code_after; relocs_after = c.compile_tracepoint.ensures.relocs_after }

pub returns-in-Err : goal.returns-in-Err
unfolding compiled_numbers
returns-in-Err c =
    record { answer_after = c.refused.ensures ∙ ap numbers_of c.refusal.ensures ∙ ap compiled_numbers (sym c.in-Err.is ∙ c.compile_tracepoint.ensures.value); code_after = c.compile_tracepoint.ensures.code_after; relocs_after = c.compile_tracepoint.ensures.relocs_after }
