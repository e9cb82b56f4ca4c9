-- `are_operands` tests the operands one after the other: those that are left decide it.
use mathlib.Core.Path.{◌≡◌}
use Prim.Native.Nat.{◌-◌}
use Rattle.ir.specs.declared.operands.Operands.TheVariants.{Zero}
use Rattle.operand.specs.Operand.{operands_at, are_operands}
use Rattle.operand.proofs.are_operands.Given as goal

abbrev pub invariant-loop : goal.invariant-loop
invariant-loop l = are_operands (operands_at Zero l.s l.at (l.k - l.counter)) ≡ are_operands (operands_at Zero l.s l.i l.k)
