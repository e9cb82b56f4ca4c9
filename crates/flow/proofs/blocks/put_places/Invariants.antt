use Rattle.flow.specs.Places.{Put}
use Rattle.flow.proofs.blocks.put_places.Given as goal

abbrev pub invariant-loop-i : goal.invariant-loop-i
invariant-loop-i l = Put l.i l.ids l.places
