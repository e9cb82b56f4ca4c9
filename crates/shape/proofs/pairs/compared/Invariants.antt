-- `compared` goes over the starts and the pairs side by side; the invariant: what is left decides.
use Prim.Native.Nat.{◌-◌}
use Rattle.shape.proofs.Relocs.{Left}
use Rattle.shape.proofs.pairs.compared.Given as goal

abbrev pub invariant-loop-s : goal.invariant-loop-s
invariant-loop-s l = Left l.code l.relocs l.s l.k

abbrev pub decreases-loop-s : goal.decreases-loop-s
decreases-loop-s l = l.n - l.s
