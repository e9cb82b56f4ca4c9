-- `read_maps` reads the maps one by one. The invariant: k maps were read, up to this byte, and the table has the signatures of their names.
use mathlib.Core.Path.{◌≡◌}
use lib.ListN.{length}
use Rattle.opening.specs.Inner.{Signed}
use Rattle.opening.proofs.names.read_maps.Given as goal

abbrev pub invariant-loop-k : goal.invariant-loop-k
invariant-loop-k l = (length l.table ≡ 64) × Signed l.s l.first l.k l.at l.table
