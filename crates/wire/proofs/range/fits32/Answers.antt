-- `fits32` tells the range of i32.
use mathlib.Core.Path.{◌∙◌}
use mir.Syntax.{w32, w64}
use Rattle.wire.specs.Range.{fits32}
use Rattle.wire.proofs.InRange.{told}
use Rattle.wire.proofs.range.fits32.Goals as goal

pub returns : goal.returns
unfolding fits32
returns c = c.is_ok.ensures.value ∙ told w64 w32 c.args.z c.try_from.result _ c.ranges.z c.try_from.ensures
