use mathlib.Core.Path.{refl}
use native.Mathlib.Omega.{arith}
use Rattle.opening.proofs.SignedNames.{signed_none, signed_more, signed_length}
use Rattle.opening.proofs.names.read_maps.Goals as goal

pub loop-k-init : goal.loop-k-init
loop-k-init c = (refl, signed_none _ _ _)

pub loop-k-preserved : goal.loop-k-preserved
loop-k-preserved c =
    let k = c.loop-k.invariant in
    (signed_length _ _ _ _ _ c.one_more.ensures.table_after k.0, signed_more _ _ _ _ _ c.one_more.ensures.table_after _ k.1 (omega arith) _ _ c.one_more.ensures.value c.in_ok-at.was)
