use Rattle.std.proofs.Common.{rules, arith, append-nil, append_assoc, sym}
use Rattle.flow.proofs.Reaching.{outs_none, outs_two}
use Rattle.flow.proofs.walk.push_targets.Goals as goal

pub returns-in-0 : goal.returns-in-0
returns-in-0 g c = rw (outs_none c.args.counts.now c.args.targets.now c.args.b c.in-0.is) (sym (append-nil c.args.pending.now))

pub returns-in_default : goal.returns-in_default
returns-in_default g c = rw (outs_two c.args.counts.now c.args.targets.now c.args.b (omega arith)) (search (rules, append_assoc))
