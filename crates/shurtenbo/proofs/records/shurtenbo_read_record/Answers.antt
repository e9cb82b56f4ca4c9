-- `shurtenbo_read_record` leaves the value that `read_record` answers.
use mathlib.Core.Path.{refl, ap, ◌∙◌}
use Rattle.shurtenbo.specs.Answer.{numbers_of}
use Rattle.shurtenbo.specs.Records.{read_numbers, read_fields}
use Rattle.shurtenbo.proofs.records.shurtenbo_read_record.Goals as goal

pub returns-in-Ok : goal.returns-in-Ok
unfolding read_numbers read_fields
returns-in-Ok c = rw (← c.due_of.ensures, ← c.read_record.ensures, c.in-Ok.is) (record { answer_after = c.done.ensures; fields_after = c.fields_of.ensures })

pub returns-in-Err : goal.returns-in-Err
unfolding read_numbers read_fields
returns-in-Err c = rw (← c.due_of.ensures, ← c.read_record.ensures, c.in-Err.is) (record { answer_after = c.refused.ensures ∙ ap numbers_of c.refusal.ensures; fields_after = refl })
