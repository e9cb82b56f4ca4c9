-- `fits16` tells the range of i16.
use mathlib.Core.Path.{◌∙◌}
use mir.Syntax.{w16, w64}
use Rattle.wire.specs.Range.{fits16}
use Rattle.wire.proofs.InRange.{told}
use Rattle.wire.proofs.range.fits16.Goals as goal

pub returns : goal.returns
unfolding fits16
returns c = c.is_ok.ensures.value ∙ told w64 w16 c.args.z c.try_from.result _ c.ranges.z c.try_from.ensures
