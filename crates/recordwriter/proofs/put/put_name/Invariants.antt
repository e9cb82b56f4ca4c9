-- `put_name` copies a name byte by byte: what is left to write stays the tail.
use Prim.Native.Nat.{◌+◌, ◌-◌}
use mathlib.Core.Path.{◌≡◌}
use lib.ListN.{length, take, drop}
use Rattle.wire.specs.Le.{store}
use Rattle.recordwriter.proofs.put.put_name.Given as goal

abbrev pub invariant-loop-k : goal.invariant-loop-k
invariant-loop-k l = (length l.b ≡ length l.initial.b) × (store l.b (l.at + l.k) (take (l.len - l.k) (drop (l.start + l.k) l.names)) ≡ store l.initial.b l.at (take l.len (drop l.start l.names)))
