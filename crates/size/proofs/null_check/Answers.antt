-- NullCheck, by whether its result is a branch condition.
use mathlib.Core.Path.{◌∙◌}
use mathlib.Core.Bool.{true, false}
use Rattle.size.proofs.Opcodes.{null_check_lem}
use Rattle.size.proofs.null_check.Goals as goal

pub returns-then-condition : goal.returns-then-condition
returns-then-condition c = c.first.ensures ∙ rw c.if-condition.true (null_check_lem c.args.payload.now true)

pub returns : goal.returns
returns c = c.first-2.ensures ∙ rw c.if-condition.false (null_check_lem c.args.payload.now false)
