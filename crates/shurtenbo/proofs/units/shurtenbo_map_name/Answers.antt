-- `shurtenbo_map_name` tells the place that `map_place` finds.
use mathlib.Core.Path.{ap, sym, ◌∙◌}
use Rattle.std.specs.Prelude.{Ok}
use Rattle.shurtenbo.specs.Answer.{numbers_of}
use Rattle.shurtenbo.specs.Units.{place_numbers}
use Rattle.shurtenbo.proofs.units.shurtenbo_map_name.Goals as goal

pub returns-in-Ok-Some : goal.returns-in-Ok-Some
unfolding place_numbers
returns-in-Ok-Some c = c.done.ensures ∙ ap place_numbers (sym (c.in-Ok-Some.is ∙ ap Ok c.in-Ok-Some.field-0-is) ∙ c.map_place.ensures)

pub returns-in-Ok-None : goal.returns-in-Ok-None
unfolding place_numbers
returns-in-Ok-None c = c.only.ensures ∙ ap place_numbers (sym (c.in-Ok-None.is ∙ ap Ok c.in-Ok-None.field-0-is) ∙ c.map_place.ensures)

pub returns-in-Err : goal.returns-in-Err
unfolding place_numbers
returns-in-Err c = c.refused.ensures ∙ ap numbers_of c.refusal.ensures ∙ ap place_numbers (sym c.in-Err.is ∙ c.map_place.ensures)
