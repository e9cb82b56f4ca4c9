use Rattle.std.proofs.Common.{arith}
use Rattle.flow.proofs.Places.{put_step}
use Rattle.flow.proofs.blocks.put_places.Goals as goal

pub loop-i-preserved : goal.loop-i-preserved
loop-i-preserved c =
    rw c.place_of-place.ensures.value (put_step c.loop-i.i c.args.ids.now c.loop-i.places (omega arith) c.loop-i.invariant)
