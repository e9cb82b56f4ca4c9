-- `pieces` puts pieces, one after the other.
use native.Mathlib.Omega.{arith}
use Rattle.lower.specs.Step.{chain}
use Rattle.lower.proofs.Steps.{put_next, all_put}
use Rattle.lower.proofs.list.pieces.Goals as goal

pub loop-p-init : goal.loop-p-init
unfolding chain
loop-p-init g c = record { holds = c.put_map-slot.ensures.holds; room = c.put_map-slot.ensures.result_bound }

pub loop-p-preserved : goal.loop-p-preserved
loop-p-preserved g c =
    let q = c.put-slot.ensures in
    let i = c.loop-p.invariant in
    record { holds = put_next c.args.map c.args.given i.holds _ (omega arith) q; room = omega (arith, q.most, i.room) }

pub returns : goal.returns
returns g c = all_put c.args.map c.args.given c.loop-p.invariant.holds (omega (arith, c.loop-p-test.false))
