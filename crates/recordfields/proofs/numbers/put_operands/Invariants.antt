-- `put_operands` writes one pair after the other: what is left to write stays the tail.
use Prim.Native.Nat.{◌+◌, ◌*◌, ◌≤◌}
use mathlib.Core.Path.{◌≡◌}
use lib.ListN.{length}
use lib.Seq.{sets}
use Rattle.ir.specs.Operands.{list_of}
use Rattle.recordfields.specs.Fields.{operands_numbers}
use Rattle.recordfields.proofs.numbers.put_operands.Given as goal

abbrev pub invariant-loop-o : goal.invariant-loop-o
invariant-loop-o l = (l.i + 2 * length (list_of l.left) ≤ length l.fields) × (length l.fields ≡ length l.initial.fields) × (sets l.fields l.i (operands_numbers (list_of l.left)) ≡ sets l.initial.fields l.at (operands_numbers (list_of l.initial.left)))

abbrev pub decreases-loop-o : goal.decreases-loop-o
decreases-loop-o l = length (list_of l.left)
