-- Of no block there are no targets and no flags.
use Rattle.std.proofs.Common.{arith}
use Rattle.std.proofs.lemmas.List.{nil_from_length}
use Rattle.flow.specs.Linked.{numbers, flags}
use Rattle.flow.proofs.link_all.Goals as goal

pub returns-in-0-clause-targets_after : goal.returns-in-0-clause-targets_after
unfolding numbers
returns-in-0-clause-targets_after c = let e = nil_from_length c.args.targets.now (omega arith) in rw e

pub returns-in-0-clause-emitted_after : goal.returns-in-0-clause-emitted_after
unfolding flags
returns-in-0-clause-emitted_after c =
    let i = nil_from_length c.args.ids.now c.in-0.is in
    let e = nil_from_length c.args.emitted.now (omega arith) in
    rw (i, e)
