-- `note` notes what a terminator tells.
use native.Mathlib.Numerals.{add-one}
use Rattle.tracepoint.proofs.context.note.Goals as goal

pub returns : goal.returns
returns c =
    let marked = c.mark_condition.ensures in
    record {
      notes = record { marks = marked; counts = rw c.count_of.ensures; targets = rw (c.first_target-a.ensures, c.second_target-b.ensures, add-one) };
      notes_2 = record { marks = marked; counts = rw c.count_of.ensures; targets = rw (c.first_target-a.ensures, c.second_target-b.ensures, add-one) };
    }
