-- `survey_unit` reads the unit whole, and then goes over its blocks.
use mathlib.Core.Path.{sym, ◌∙◌}
use Rattle.std.proofs.lemmas.Result.{err_from_is_err_and}
use Rattle.survey.specs.Surveyed.{of_reading}
use Rattle.survey.proofs.Answers.{unit_answer, refused_answer, refused_variables, refused_ids, refused_endings}
use Rattle.survey.proofs.survey_unit.Goals as goal

pub survey_blocks-requires : goal.survey_blocks-requires
survey_blocks-requires c = record { unit_value = sym c.read_unit.ensures ∙ c.in_ok-found.was; variables_len = c.fixed.ensures }

pub returns-in_err-found : goal.returns-in_err-found
unfolding of_reading
returns-in_err-found c =
    let p = err_from_is_err_and c.from_residual.result c.from_residual.ensures.1 in
    let e = sym c.read_unit.ensures ∙ c.in_err-found.was in
    rw (p.1, p.2) (record { value = refused_answer _ _ e; variables_after = refused_variables _ _ e _; ids_after = refused_ids _ _ e _; endings_after = refused_endings _ _ e _ })

pub returns : goal.returns
returns c =
    let e = sym c.read_unit.ensures ∙ c.in_ok-found.was in
    record { value = c.survey_blocks.ensures.value ∙ unit_answer _ _ e; variables_after = c.survey_blocks.ensures.variables_after; ids_after = c.survey_blocks.ensures.ids_after; endings_after = c.survey_blocks.ensures.endings_after }
