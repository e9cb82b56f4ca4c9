-- `answer` is the unit and its count, or the place of the 57th.
use borrow.Author.Tests.{lt-ltb, le-ltb}
use Rattle.survey.specs.Inner.{tallied}
use Rattle.survey.proofs.pass.answer.Goals as goal

pub returns-then-tally-gt56 : goal.returns-then-tally-gt56
unfolding tallied
returns-then-tally-gt56 c = rw (lt-ltb 56 _ c.if-tally-gt56.true)

pub returns : goal.returns
unfolding tallied
returns c = rw (le-ltb 56 _ c.if-tally-gt56.false)
