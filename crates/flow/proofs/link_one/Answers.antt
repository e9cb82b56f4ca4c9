use Rattle.std.proofs.Common.{[], ◌∷◌, arith}
use Rattle.flow.proofs.Passes.{numbered_step, numbered_end}
use Rattle.flow.proofs.One.{one_flags}
use Rattle.flow.proofs.link_one.Goals as goal

pub loop-target-preserved : goal.loop-target-preserved
loop-target-preserved c =
    let l = c.loop-target in
    numbered_step (c.args.id ∷ []) c.args.targets.now l.targets l.target-index (omega arith) l.auto.targets c.number_of_one.ensures l.invariant

pub returns-clause-targets_after : goal.returns-clause-targets_after
returns-clause-targets_after c = numbered_end (c.args.id ∷ []) c.args.targets.now c.loop-target.targets c.loop-target.target-index (omega arith) c.loop-target.invariant

pub returns-clause-emitted_after : goal.returns-clause-emitted_after
returns-clause-emitted_after c counts = one_flags c.args.id counts c.args.targets.now c.args.emitted.now c.requires
