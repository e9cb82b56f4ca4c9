-- `with_variable` leaves a variable that stands among those that were collected, and puts any other there while no 57th came.
use Rattle.survey.specs.Occurrences.{of_operand}
use Rattle.survey.proofs.Tallies.{known, full}
use Rattle.survey.proofs.occurrences.with_variable.Goals as goal

pub returns-then-tally-gt56 : goal.returns-then-tally-gt56
returns-then-tally-gt56 c = full _ _ c.if-tally-gt56.true c.requires

pub index-requires : goal.index-requires
index-requires c = c.if-tally-gt56.false

pub returns-then-index-tally : goal.returns-then-index-tally
unfolding of_operand
returns-then-index-tally c =
    known _ _ c.args.place c.args.v c.requires c.if-tally-gt56.false _ c.index.ensures c.if-index-tally.true

pub insert-requires : goal.insert-requires
insert-requires c = record { holds = c.requires; count_bound = c.if-tally-gt56.false }

pub returns : goal.returns
returns c = c.insert.ensures
