-- `read_blocks` passes the blocks that are due. The invariant: what is found from this block on is what is found from the first on.
use mathlib.Core.Path.{◌≡◌}
use Prim.Native.Nat.{◌-◌}
use Rattle.unitfile.specs.Records.{at_block, records_from}
use Rattle.unitfile.specs.Inner.{found_with}
use Rattle.unitfile.proofs.walk.read_blocks.Given as goal

abbrev pub invariant-loop : goal.invariant-loop
invariant-loop l = found_with l.found (records_from l.s l.maps (at_block l.initial.at l.found.blocks)) ≡ found_with l.found (records_from l.s l.maps (at_block l.at (l.found.blocks - l.counter)))
