-- `shurtenbo_screen` tells the verdict of `screen`.
use mathlib.Core.Path.{ap, ◌∙◌}
use Rattle.shurtenbo.specs.Answer.{numbers_of}
use Rattle.shurtenbo.specs.Code.{verdict_numbers}
use Rattle.shurtenbo.proofs.code.shurtenbo_screen.Goals as goal

pub returns-in-Ok : goal.returns-in-Ok
unfolding verdict_numbers
returns-in-Ok c = record { verdict = _; screened = c.screen.ensures; told = rw c.in-Ok.is c.done.ensures }

pub returns-in-Err : goal.returns-in-Err
unfolding verdict_numbers
returns-in-Err c = record { verdict = _; screened = c.screen.ensures; told = rw c.in-Err.is (c.refused.ensures ∙ ap numbers_of c.refusal.ensures) }
