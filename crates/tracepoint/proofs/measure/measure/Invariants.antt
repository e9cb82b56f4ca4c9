-- `measure` goes over the blocks; what is left of them always leads to the same size and edges.
use Rattle.jumps.specs.Landed.{marked}
use Rattle.tracepoint.specs.Lent.{context_in}
use Rattle.passes.proofs.Measuring.{Measuring}
use Rattle.tracepoint.proofs.measure.measure.Given as goal

abbrev pub invariant-loop-k : goal.invariant-loop-k
invariant-loop-k l = Measuring l.links.unit.now (context_in l.context) (marked l.links.emitted.now) l.links.endings.now l.initial.edges l.edges l.n l.k l.at l.slots l.relocs
