-- `with_operand` takes the operand's variable, where it is one.
use mathlib.Core.Path.{sym, ◌∙◌}
use Rattle.survey.specs.Occurrences.{of_operand}
use Rattle.survey.proofs.Tallies.{nothing}
use Rattle.survey.proofs.occurrences.with_operand.Goals as goal

pub returns-in_default : goal.returns-in_default
unfolding of_operand
returns-in_default c = rw (sym c.operand_in.ensures ∙ c.in_default.is) (nothing c.requires)

pub returns : goal.returns
returns c = rw (sym c.operand_in.ensures ∙ c.in-Var.is) c.with_variable.ensures
