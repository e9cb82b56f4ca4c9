-- `with_operands` takes one operand after the other.
use mathlib.Core.List.{List}
use Prim.Native.Nat.{ℕ, ◌+◌, ◌-◌, ◌*◌, ◌≤◌}
use Rattle.operand.specs.Operand.{operands_in}
use Rattle.survey.specs.Occurrences.{of_operands}
use Rattle.survey.specs.Inner.{Holds, Takes}
use Rattle.survey.specs.declared.occurrences.Tally.{Tally}
use Rattle.survey.proofs.occurrences.with_operands.Given as goal

abbrev pub invariant-loop : goal.invariant-loop
invariant-loop l =
    (l.i + 9 * (l.count - l.counter) ≤ l.place + 20 + 9 * l.count)
    × Holds l.counted l.variables
    × ((r : Tally) (m : List ℕ) → Takes l.counted l.variables (of_operands l.place (operands_in l.s l.i (l.count - l.counter))) r m → Takes l.initial.counted l.initial.variables (of_operands l.place (operands_in l.s (l.place + 20) l.count)) r m)
