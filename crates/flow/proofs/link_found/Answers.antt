use Rattle.std.proofs.Common.{arith}
use Rattle.flow.proofs.Linking.{flags_linked}
use Rattle.flow.proofs.link_found.Goals as goal

pub returns-clause-emitted_after : goal.returns-clause-emitted_after
returns-clause-emitted_after g c =
    let b = c.args.blocks.now in
    flags_linked b.ids.now c.args.counts.now c.args.targets.now b.few (omega arith) c.find.ensures c.put_numbers.ensures (rw (← c.requires.same.0) c.reach.ensures)
    c.put_flags.new.emitted (omega arith) c.put_flags.ensures
