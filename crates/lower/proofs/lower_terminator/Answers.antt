-- A terminator, by its form.
use mathlib.Core.Path.{refl, ◌∙◌}
use Rattle.lower.specs.Op.{◌▸◌}
use Rattle.lower.specs.Held.{ending_ops}
use Rattle.lower.specs.Terminator.{terminator}
use Rattle.lower.proofs.Exits.{handed_on}
use Rattle.lower.proofs.Steps.{step_is, step_refused}
use Rattle.lower.proofs.Compose.{◌▹◌, refused_first}
use Rattle.lower.proofs.lower_terminator.Goals as goal

pub returns-in_ok-first-in-Return : goal.returns-in_ok-first-in-Return
unfolding ending_ops terminator
returns-in_ok-first-in-Return c = rw c.in-Return.is (step_is c.load_step.ensures c.in_ok-first-in-Return.was ▹ refl)

pub returns-in_err-first-in-Return : goal.returns-in_err-first-in-Return
unfolding ending_ops terminator
returns-in_err-first-in-Return c =
    rw (c.in-Return.is, handed_on c.from_residual.ensures.1) (refused_first _ ∙ (step_refused c.load_step.ensures c.in_err-first-in-Return.was ▹ refl))

pub returns-in-Jump : goal.returns-in-Jump
unfolding ending_ops terminator
returns-in-Jump c = rw c.in-Jump.is

pub returns-in_ok-first-in-Branch : goal.returns-in_ok-first-in-Branch
unfolding ending_ops terminator ◌▸◌
returns-in_ok-first-in-Branch c = rw c.in-Branch.is (step_is c.load_step-in-Branch.ensures c.in_ok-first-in-Branch.was ▹ refl)

pub returns-in_err-first-in-Branch : goal.returns-in_err-first-in-Branch
unfolding ending_ops terminator
returns-in_err-first-in-Branch c =
    rw (c.in-Branch.is, handed_on c.from_residual-in_err-first-in-Branch.ensures.1) (refused_first _ ∙ (step_refused c.load_step-in-Branch.ensures c.in_err-first-in-Branch.was ▹ refl))
