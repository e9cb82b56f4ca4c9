use Rattle.std.proofs.Common.{arith}
use Rattle.flow.proofs.Keys.{keys_are}
use Rattle.flow.proofs.blocks.put_keys.Goals as goal

pub returns : goal.returns
returns c = keys_are c.args.ids.now c.loop-i.keys (omega arith) (λ k h. c.loop-i.invariant k (omega arith))
