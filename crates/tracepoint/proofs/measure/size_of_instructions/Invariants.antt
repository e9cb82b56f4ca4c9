-- `size_of_instructions` goes from one instruction to the next; what is left of them always leads to the same size.
use Prim.Native.Nat.{◌-◌}
use Rattle.tracepoint.specs.Lent.{context_in}
use Rattle.passes.proofs.Sizing.{Sizing}
use Rattle.tracepoint.proofs.measure.size_of_instructions.Given as goal

abbrev pub invariant-loop-at : goal.invariant-loop-at
invariant-loop-at l = Sizing (context_in l.context) l.unit l.end l.first l.at l.slots l.relocs

abbrev pub decreases-loop-at : goal.decreases-loop-at
decreases-loop-at l = l.end - l.at
