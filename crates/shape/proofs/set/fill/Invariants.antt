-- `fill` puts the starts into the set: those before s are in it.
use Prim.Native.Nat.{◌-◌}
use Rattle.shape.proofs.Members.{Filled}
use Rattle.shape.proofs.set.fill.Given as goal

abbrev pub invariant-loop-s : goal.invariant-loop-s
invariant-loop-s l = Filled l.code l.words l.s

abbrev pub decreases-loop-s : goal.decreases-loop-s
decreases-loop-s l = l.n - l.s
