-- `over_instructions` takes what each instruction names; what is left of them always leads to the same end.
use Prim.Native.Nat.{◌-◌, ◌≤◌}
use lib.ListN.{length}
use Rattle.survey.proofs.Through.{Through}
use Rattle.survey.proofs.pass.over_instructions.Given as goal

-- a record's payload has at most 65,535 bytes, so the pass stays near the unit
abbrev pub invariant-loop-variables : goal.invariant-loop-variables
invariant-loop-variables l = Through l.s l.first l.initial.counted l.initial.variables l.at l.counted l.variables × (l.at ≤ 327679)

abbrev pub decreases-loop-variables : goal.decreases-loop-variables
decreases-loop-variables l = length l.s - l.at
