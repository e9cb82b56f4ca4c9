-- `first_fault` goes over the starts; the invariant: the shapes from s on decide.
use Prim.Native.Nat.{◌-◌}
use Rattle.shape.proofs.Passes.{Going}
use Rattle.shape.proofs.instruction.first_fault.Given as goal

abbrev pub invariant-loop-s : goal.invariant-loop-s
invariant-loop-s l = Going l.starts.code.now l.s

abbrev pub decreases-loop-s : goal.decreases-loop-s
decreases-loop-s l = l.n - l.s
