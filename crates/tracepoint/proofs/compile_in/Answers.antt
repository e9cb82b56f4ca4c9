-- `compile_in`: a refusal of the survey, or what is made of the unit it found.
use mathlib.Core.Path.{refl, sym, ◌∙◌}
use native.Mathlib.Nat.{sub-zero}
use Rattle.std.proofs.lemmas.Result.{err_from_is_err_and}
use Rattle.passes.proofs.Tables.{variables_inside, surveyed, surveyed_spacious}
use Rattle.tracepoint.proofs.Compiling.{when_unsurveyed}
use Rattle.tracepoint.proofs.compile_in.Goals as goal

pub returns-in_err-found : goal.returns-in_err-found
returns-in_err-found c =
    let p = err_from_is_err_and c.from_residual.result c.from_residual.ensures.1 in
    rw (p.1, p.2) (when_unsurveyed _ _ (sym c.survey_unit.ensures.value ∙ c.in_err-found.was) c.args.code.now c.args.relocs.now)

pub slice_bounds-compile_surveyed-end : goal.slice_bounds-compile_surveyed-end
slice_bounds-compile_surveyed-end c =
    variables_inside _ _ (sym c.survey_unit.ensures.value ∙ c.in_ok-found.was) c.survey_unit.ensures.variables_after refl

pub compile_surveyed-requires : goal.compile_surveyed-requires
compile_surveyed-requires c = record { surveyed = surveyed _ _ (sym c.survey_unit.ensures.value ∙ c.in_ok-found.was) c.survey_unit.ensures.variables_after refl _ _ (sub-zero _) c.survey_unit.ensures.ids_after c.survey_unit.ensures.endings_after c.requires.ids c.requires.endings; spacious = surveyed_spacious _ _ _ c.survey_unit.ensures.ids_after c.survey_unit.ensures.endings_after c.requires }
