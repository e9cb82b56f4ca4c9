use Rattle.std.proofs.Common.{arith}
use Rattle.flow.proofs.Passes.{numbered_step, numbered_end}
use Rattle.flow.proofs.blocks.Blocks.put_numbers.Goals as goal

pub loop-target-preserved : goal.loop-target-preserved
loop-target-preserved c =
    let l = c.loop-target in
    numbered_step c.args.self.now.ids.now c.args.targets.now l.targets l.target-index (omega arith) l.auto.targets c.find.ensures l.invariant

pub returns : goal.returns
returns c = numbered_end c.args.self.now.ids.now c.args.targets.now c.loop-target.targets c.loop-target.target-index (omega arith) c.loop-target.invariant
