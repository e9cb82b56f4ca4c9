use Rattle.std.proofs.Common.{arith}
use Rattle.flow.proofs.Keys.{keys_sorted}
use Rattle.flow.proofs.link_sorted.Goals as goal

pub invariant_of-blocks-clause-sorts : goal.invariant_of-blocks-clause-sorts
invariant_of-blocks-clause-sorts g c _ = keys_sorted c.args.ids.now (omega arith) c.put_keys.ensures c.sort.ensures
