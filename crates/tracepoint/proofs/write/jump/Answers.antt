-- `jump` holds the distance, which is in range.
use mir.Syntax.{w16, w64}
use Rattle.wire.proofs.InRange.{cast_fits, cast_is}
use Rattle.passes.proofs.Put.{narrow}
use Rattle.tracepoint.proofs.write.jump.Goals as goal

pub overflow_cast-result : goal.overflow_cast-result
overflow_cast-result c = let z = narrow c.distance.ensures c.requires in cast_fits w64 w16 c.distance.result z.wide z.fits

pub returns : goal.returns
returns c = let z = narrow c.distance.ensures c.requires in rw (cast_is w64 w16 c.distance.result z.wide z.fits, c.distance.ensures)
