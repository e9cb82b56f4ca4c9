-- `first` needs the first operand.
use mathlib.Core.Path.{refl, ◌∙◌}
use borrow.Author.Tests.{eq-eqb, ne_eqb}
use Rattle.lower.proofs.Exits.{handed_on}
use Rattle.size.specs.Part.{of_first}
use Rattle.size.proofs.Takes.{judged, refused_is, taken}
use Rattle.size.proofs.first.Goals as goal

pub returns-then-get_u8-eq0 : goal.returns-then-get_u8-eq0
unfolding of_first
returns-then-get_u8-eq0 c = simp (← c.get_u8.ensures, eq-eqb _ 0 c.if-get_u8-eq0.true)

pub returns-in_err-judge : goal.returns-in_err-judge
unfolding of_first
returns-in_err-judge c = handed_on c.from_residual.ensures.1 ∙ rw (← c.get_u8.ensures, ne_eqb _ 0 c.if-get_u8-eq0.false) (refused_is _ _ (judged c.judge.ensures c.operand_in-a.ensures c.in_err-judge.was))

pub returns : goal.returns
unfolding of_first
returns c = rw (← c.get_u8.ensures, ne_eqb _ 0 c.if-get_u8-eq0.false) (taken (judged c.judge.ensures c.operand_in-a.ensures c.in_ok-judge.was) refl refl)
