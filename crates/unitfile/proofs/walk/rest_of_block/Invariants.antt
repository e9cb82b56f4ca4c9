-- `rest_of_block` passes instructions. The invariant: what is found from this byte on is what is found from the first on, however many blocks come after.
use mathlib.Core.Path.{◌≡◌}
use Prim.Native.Nat.{ℕ, ◌-◌}
use lib.ListN.{length}
use Rattle.unitfile.specs.Records.{in_block, records_from}
use Rattle.unitfile.specs.Inner.{found_with}
use Rattle.unitfile.specs.declared.Found.{Found}
use Rattle.unitfile.proofs.walk.rest_of_block.Given as goal

abbrev pub invariant-loop-kind : goal.invariant-loop-kind
invariant-loop-kind l = (found : Found) (blocks : ℕ) → found_with found (records_from l.s l.maps (in_block l.first blocks)) ≡ found_with found (records_from l.s l.maps (in_block l.at blocks))

abbrev pub decreases-loop-kind : goal.decreases-loop-kind
decreases-loop-kind l = length l.s - l.at
