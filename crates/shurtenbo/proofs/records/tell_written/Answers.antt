-- `tell_written` tells the bytes written, or the refusal.
use mathlib.Core.Path.{ap, ◌∙◌}
use Rattle.shurtenbo.specs.Answer.{numbers_of}
use Rattle.shurtenbo.specs.Records.{written_numbers}
use Rattle.shurtenbo.proofs.records.tell_written.Goals as goal

pub returns-in-Ok : goal.returns-in-Ok
unfolding written_numbers
returns-in-Ok c = rw c.in-Ok.is c.done.ensures

pub returns-in-Err : goal.returns-in-Err
unfolding written_numbers
returns-in-Err c = rw c.in-Err.is (c.refused.ensures ∙ ap numbers_of c.refusal.ensures)
