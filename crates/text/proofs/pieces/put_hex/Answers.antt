-- `put_hex` puts its digits, which are those of the bytes.
use mathlib.Core.Path.{refl}
use native.Mathlib.Omega.{arith}
use lib.ListN.{length-set}
use Rattle.text.specs.Digits.{hex}
use Rattle.text.proofs.Steps.{hex_step}
use Rattle.text.proofs.pieces.put_hex.Goals as goal

pub loop-k-init : goal.loop-k-init
unfolding hex
loop-k-init c = (refl, refl)

pub loop-k-preserved : goal.loop-k-preserved
loop-k-preserved c =
    let l = c.loop-k in
    (simp length-set l.invariant.0, hex_step l.text c.args.bytes.now l.k (omega (arith, c.told-bytes)) (omega (arith, c.told-bytes)) c.digit.ensures c.digit-in-loop-k.ensures l.invariant.1)
