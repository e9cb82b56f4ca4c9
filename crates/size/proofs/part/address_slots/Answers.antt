-- The slots of "addr".
use native.Mathlib.Omega.{arith}
use Rattle.size.specs.Part.{address_slots}
use Rattle.size.proofs.part.address_slots.Goals as goal

pub returns-in-Var : goal.returns-in-Var
unfolding address_slots
returns-in-Var c = (rw c.in-Var.is, omega arith)

pub returns-in-Immediate : goal.returns-in-Immediate
unfolding address_slots
returns-in-Immediate c = (rw c.in-Immediate.is, omega arith)
