-- `check_jumps` checks the blocks in file order. The loop's invariant: what is left to check decides the answer.
use mathlib.Core.Path.{◌≡◌}
use Prim.Native.Nat.{◌-◌}
use Rattle.jumps.specs.Landed.{landed_from}
use Rattle.jumps.proofs.check_jumps.Given as goal

abbrev pub invariant-loop-k : goal.invariant-loop-k
invariant-loop-k l =
    landed_from l.tables.emitted.now l.tables.edges.now l.tables.endings.now l.tables.counts.now l.tables.named.now l.tables.numbers.now l.k (l.n - l.k) ≡ landed_from l.tables.emitted.now l.tables.edges.now l.tables.endings.now l.tables.counts.now l.tables.named.now l.tables.numbers.now 0 l.n
