-- The ring moves on at the first operand.
use mathlib.Core.Path.{ap, ◌∙◌}
use Rattle.lower.specs.Operand.{next}
use Rattle.lower.specs.Payload.{operands_of}
use Rattle.lower.proofs.Counts.{first_stays, first_moves}
use Rattle.lower.proofs.instruction.after_first.Goals as goal

pub returns-then-n-eq0 : goal.returns-then-n-eq0
unfolding operands_of
returns-then-n-eq0 c = rw (← c.count_in-n.ensures) (first_stays c.args.payload.now 16 c.args.j _ c.if-n-eq0.true)

pub returns : goal.returns
unfolding operands_of
returns c =
    rw (← c.count_in-n.ensures)
    (c.next.ensures ∙ ap (next c.args.j) c.operand_in.ensures ∙ first_moves c.args.payload.now 16 c.args.j _ c.if-n-eq0.false)
