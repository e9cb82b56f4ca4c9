-- `with_terminator` takes the variable of a return or a branch.
use borrow.Author.Tests.{eq-eqb, ne_eqb}
use Rattle.survey.specs.Inner.{of_terminator_in}
use Rattle.survey.proofs.Tallies.{nothing}
use Rattle.survey.proofs.occurrences.with_terminator.Goals as goal

pub returns-then-get_u8-eq1 : goal.returns-then-get_u8-eq1
unfolding of_terminator_in
returns-then-get_u8-eq1 c = rw (← c.get_u8.ensures, eq-eqb _ _ c.if-get_u8-eq1.true) (nothing c.requires.holds)

pub returns : goal.returns
unfolding of_terminator_in
returns c = rw (← c.get_u8.ensures, ne_eqb _ _ c.if-get_u8-eq1.false) c.with_operand.ensures
