-- `shurtenbo_read_unit` tells the counts that were found, which are those of the unit's maps and blocks.
use mathlib.Core.Path.{ap, sym, ◌∙◌}
use Rattle.shurtenbo.specs.Answer.{numbers_of}
use Rattle.shurtenbo.proofs.Counts.{whole_numbers, refused_numbers}
use Rattle.shurtenbo.proofs.units.shurtenbo_read_unit.Goals as goal

pub returns-in-Ok : goal.returns-in-Ok
returns-in-Ok c = c.done.ensures ∙ sym (whole_numbers _ _ (sym c.read_unit.ensures ∙ c.in-Ok.is))

pub returns-in-Err : goal.returns-in-Err
returns-in-Err c = c.refused.ensures ∙ ap numbers_of c.refusal.ensures ∙ sym (refused_numbers _ _ (sym c.read_unit.ensures ∙ c.in-Err.is))
