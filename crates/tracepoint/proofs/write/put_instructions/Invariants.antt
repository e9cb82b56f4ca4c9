-- `put_instructions` goes over the records; what is left of them always leads to the same code and relocations.
use mathlib.Core.Path.{◌≡◌}
use Prim.Native.Nat.{◌-◌}
use lib.ListN.{length}
use Rattle.tracepoint.specs.Lent.{context_in}
use Rattle.passes.specs.Places.{places, ops_at, ring_at}
use Rattle.passes.proofs.Writing.{Putting}
use Rattle.tracepoint.proofs.write.put_instructions.Given as goal

abbrev pub invariant-loop-at : goal.invariant-loop-at
invariant-loop-at l =
    Putting (context_in l.context) l.unit l.end (ops_at (context_in l.context) l.unit l.initial.passed.scratch (places l.unit l.first l.end)) (ring_at (context_in l.context) l.unit l.initial.passed.scratch (places l.unit l.first l.end)) l.initial.passed.front.slot.0 l.initial.passed.front.relocs l.initial.code l.initial.relocs
    l.at l.passed.scratch l.passed.front.slot.0 l.passed.front.relocs l.code l.relocs
    × (length l.code ≡ length l.initial.code) × (length l.relocs ≡ length l.initial.relocs)

abbrev pub decreases-loop-at : goal.decreases-loop-at
decreases-loop-at l =
    l.end - l.at
