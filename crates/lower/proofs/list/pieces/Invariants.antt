-- the map's load and the pieces so far are put
use Rattle.std.proofs.Common.{◌≤◌, ◌+◌, ◌*◌, take}
use Rattle.lower.specs.Step.{map_ops, chain, Holds}
use Rattle.lower.proofs.list.pieces.Given as goal

abbrev pub invariant-loop-p : goal.invariant-loop-p
invariant-loop-p g l = record {
  holds : Holds l.fn.code l.at (chain (map_ops l.map) (take l.p-index l.fn.given)) l.code l.slot.0;
  room : l.slot.0 ≤ 2 + 2 * l.p-index;
}
