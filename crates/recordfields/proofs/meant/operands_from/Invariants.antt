-- `operands_from` reads the pairs one after the other: those read, and the rest, are the whole list.
use mathlib.Core.Path.{◌≡◌}
use Prim.Native.Nat.{◌+◌, ◌-◌, ◌*◌}
use Rattle.ir.specs.declared.operands.Operands.TheVariants.{Zero}
use Rattle.recordfields.specs.Meant.{operands_from}
use Rattle.recordfields.proofs.meant.operands_from.Given as goal

abbrev pub invariant-loop : goal.invariant-loop
invariant-loop l = (operands_from l.list l.fields l.i (l.k - l.counter) ≡ operands_from Zero l.fields 7 l.k) × (l.i ≡ 7 + 2 * l.counter)
