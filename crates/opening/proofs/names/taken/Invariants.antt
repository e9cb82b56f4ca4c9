-- `taken` walks over the earlier maps by their lengths. The invariant: those that are left decide it.
use mathlib.Core.Path.{◌≡◌}
use Prim.Native.Nat.{◌-◌}
use Rattle.opening.specs.Inner.{taken_from}
use Rattle.opening.proofs.names.taken.Given as goal

abbrev pub invariant-loop : goal.invariant-loop
invariant-loop l = taken_from l.s l.name l.at (l.k - l.counter) ≡ taken_from l.s l.name l.first l.k
