-- `three_operands` takes three.
use mathlib.Core.Path.{refl, ◌∙◌}
use borrow.Author.Tests.{eq-eqb, ne_eqb}
use Rattle.lower.proofs.Exits.{handed_on}
use Rattle.size.specs.Part.{of_three}
use Rattle.size.proofs.Takes.{judged, first_stops, then_stops, both, refused_is, taken}
use Rattle.size.proofs.three_operands.Goals as goal

pub returns-then-n-ne3 : goal.returns-then-n-ne3
unfolding of_three
returns-then-n-ne3 c = simp (← c.get_u8-n.ensures, ne_eqb _ 3 c.if-n-ne3.true)

pub returns-in_err-judge : goal.returns-in_err-judge
unfolding of_three
returns-in_err-judge c = handed_on c.from_residual.ensures.1 ∙ rw (← c.get_u8-n.ensures, eq-eqb _ 3 c.if-n-ne3.false) (refused_is _ _ (first_stops _ (first_stops _ (judged c.judge.ensures c.operand_in-a.ensures c.in_err-judge.was))))

pub returns-in_err-judge-2 : goal.returns-in_err-judge-2
unfolding of_three
returns-in_err-judge-2 c = handed_on c.from_residual-in_err-judge-2.ensures.1 ∙ rw (← c.get_u8-n.ensures, eq-eqb _ 3 c.if-n-ne3.false) (refused_is _ _ (first_stops _ (then_stops (judged c.judge.ensures c.operand_in-a.ensures c.in_ok-judge.was) (judged c.judge-2.ensures c.operand_in-b.ensures c.in_err-judge-2.was))))

pub returns-in_err-judge-3 : goal.returns-in_err-judge-3
unfolding of_three
returns-in_err-judge-3 c = handed_on c.from_residual-in_err-judge-3.ensures.1 ∙ rw (← c.get_u8-n.ensures, eq-eqb _ 3 c.if-n-ne3.false) (refused_is _ _ (then_stops (both (judged c.judge.ensures c.operand_in-a.ensures c.in_ok-judge.was) (judged c.judge-2.ensures c.operand_in-b.ensures c.in_ok-judge-2.was)) (judged c.judge-3.ensures c.operand_in-c.ensures c.in_err-judge-3.was)))

pub returns : goal.returns
unfolding of_three
returns c = rw (← c.get_u8-n.ensures, eq-eqb _ 3 c.if-n-ne3.false) (taken (both (both (judged c.judge.ensures c.operand_in-a.ensures c.in_ok-judge.was) (judged c.judge-2.ensures c.operand_in-b.ensures c.in_ok-judge-2.was)) (judged c.judge-3.ensures c.operand_in-c.ensures c.in_ok-judge-3.was)) refl refl)
