-- `shurtenbo_write_record` tells what `write_record` answers for the record that the fields mean.
use mathlib.Core.Path.{refl, ap, ◌∙◌}
use Rattle.shurtenbo.specs.Records.{written_numbers, write_answer, write_buffer}
use Rattle.shurtenbo.proofs.records.shurtenbo_write_record.Goals as goal

pub returns-in-Some : goal.returns-in-Some
unfolding write_answer write_buffer
returns-in-Some c = rw (← c.record_from.ensures, c.in-Some.is) (record { answer_after = c.tell_written.ensures ∙ ap written_numbers c.write_record.ensures.value; buffer_after = c.write_record.ensures.buffer_after })

pub returns-in-None : goal.returns-in-None
unfolding write_answer write_buffer
returns-in-None c = rw (← c.record_from.ensures, c.in-None.is) (record { answer_after = c.tell_written-in-None.ensures; buffer_after = refl })
