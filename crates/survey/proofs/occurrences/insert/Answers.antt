-- `insert` puts a variable among those that were collected, or notes the place where there is no room.
use mathlib.Core.Path.{sym, ◌∙◌}
use Rattle.survey.specs.Occurrences.{of_operand}
use Rattle.survey.proofs.Tallies.{fits, counts, overflows}
use Rattle.survey.proofs.occurrences.insert.Goals as goal

pub guess_anew-requires : goal.guess_anew-requires
guess_anew-requires c =
    fits _ _ c.args.place c.args.v c.requires.holds c.requires.count_bound _ (sym c.insert.ensures.value ∙ c.in-Some.is)

pub returns-in-Some : goal.returns-in-Some
unfolding of_operand
returns-in-Some c =
    counts _ _ c.args.place c.args.v c.requires.holds c.requires.count_bound _ (sym c.insert.ensures.value ∙ c.in-Some.is) c.insert.ensures.variables_after

pub returns-in-None : goal.returns-in-None
unfolding of_operand
returns-in-None c =
    overflows _ _ c.args.place c.args.v c.requires.holds c.requires.count_bound (sym c.insert.ensures.value ∙ c.in-None.is) c.insert.ensures.variables_after
