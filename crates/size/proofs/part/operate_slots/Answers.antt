-- The slots of Binary's operation.
use native.Mathlib.Omega.{arith}
use Rattle.size.specs.Part.{operate_slots}
use Rattle.size.proofs.part.operate_slots.Goals as goal

pub returns-in-Var : goal.returns-in-Var
unfolding operate_slots
returns-in-Var c = (rw c.in-Var.is, omega arith)

pub returns-in-Immediate : goal.returns-in-Immediate
unfolding operate_slots
returns-in-Immediate c = (rw c.in-Immediate.is, omega arith)
