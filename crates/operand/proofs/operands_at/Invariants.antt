-- `operands_at` reads the operands one after the other: those read, and the rest, are the whole list.
use mathlib.Core.Path.{◌≡◌}
use Prim.Native.Nat.{◌-◌}
use Rattle.ir.specs.declared.operands.Operands.TheVariants.{Zero}
use Rattle.operand.specs.Operand.{operands_at}
use Rattle.operand.proofs.operands_at.Given as goal

abbrev pub invariant-loop : goal.invariant-loop
invariant-loop l = operands_at l.list l.s l.at (l.k - l.counter) ≡ operands_at Zero l.s l.i l.k
