-- `map_from` passes k maps. The invariant: the map after those that are left is the one asked for.
use mathlib.Core.Path.{◌≡◌}
use Prim.Native.Nat.{◌-◌}
use Rattle.opening.specs.Places.{map_from}
use Rattle.opening.proofs.map_from.Given as goal

abbrev pub invariant-loop : goal.invariant-loop
invariant-loop l = map_from l.s l.at (l.k - l.counter) ≡ map_from l.s l.first l.k
