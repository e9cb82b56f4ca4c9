-- `set_operands` writes one operand after the other: what is left to write stays the tail.
use Prim.Native.Nat.{◌+◌, ◌*◌, ◌≤◌}
use mathlib.Core.Path.{◌≡◌}
use lib.ListN.{length}
use Rattle.wire.specs.Le.{store}
use Rattle.ir.specs.Operands.{list_of}
use Rattle.operand.specs.Operand.{operands_bytes}
use Rattle.operand.proofs.set_operands.Given as goal

abbrev pub invariant-loop-o : goal.invariant-loop-o
invariant-loop-o l = (l.i + 9 * length (list_of l.left) ≤ length l.b) × (length l.b ≡ length l.initial.b) × (store l.b l.i (operands_bytes (list_of l.left)) ≡ store l.initial.b l.at (operands_bytes (list_of l.initial.left)))

abbrev pub decreases-loop-o : goal.decreases-loop-o
decreases-loop-o l = length (list_of l.left)
