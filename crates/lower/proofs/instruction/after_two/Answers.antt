-- The ring moves on at the second operand too.
use mathlib.Core.Path.{ap₂, ◌∙◌}
use Rattle.lower.specs.Operand.{next}
use Rattle.lower.specs.Payload.{operands_of}
use Rattle.lower.proofs.Counts.{no_second, second_moves}
use Rattle.lower.proofs.instruction.after_two.Goals as goal

pub returns-then-n-lt2 : goal.returns-then-n-lt2
unfolding operands_of
returns-then-n-lt2 c =
    let k = rw (← c.count_in-n.ensures) at c.after_first-k.ensures in
    rw (← c.count_in-n.ensures) (k ∙ no_second c.args.payload.now 16 c.args.j _ c.if-n-lt2.true)

pub returns : goal.returns
unfolding operands_of
returns c =
    let k = rw (← c.count_in-n.ensures) at c.after_first-k.ensures in
    rw (← c.count_in-n.ensures)
    (c.next.ensures ∙ ap₂ next k c.operand_in.ensures ∙ second_moves c.args.payload.now 16 c.args.j _ c.if-n-lt2.false)
