use Rattle.std.proofs.Common.{sym, ◌∙◌, arith}
use Rattle.paths.proofs.Settle.{inside, outside}
use Rattle.paths.proofs.work.ends.Goals as goal

pub returns-then-leaves : goal.returns-then-leaves
returns-then-leaves c =
    outside c.args.code.now c.args.t.now c.requires c.loop-v.v c.loop-v-test.true (sym c.leaves.ensures ∙ c.if-leaves.true)

pub returns : goal.returns
returns c =
    inside c.args.code.now c.args.t.now c.requires (λ v l. c.loop-v.invariant v (omega arith))
