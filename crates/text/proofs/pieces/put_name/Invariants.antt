-- `put_name` shows a name byte by byte: what is left to write stays the tail.
use Prim.Native.Nat.{◌+◌, ◌≤◌}
use mathlib.Core.Path.{◌≡◌}
use lib.ListN.{length, drop}
use Rattle.wire.specs.Le.{store}
use Rattle.text.specs.Digits.{shown_name}
use Rattle.text.proofs.pieces.put_name.Given as goal

abbrev pub invariant-loop-k : goal.invariant-loop-k
invariant-loop-k l = (l.at + length l.name ≤ length l.out) × (store l.out (l.at + l.k) (shown_name (drop l.k l.name)) ≡ store l.initial.out l.at (shown_name l.name))
