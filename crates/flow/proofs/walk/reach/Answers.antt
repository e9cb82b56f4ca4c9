-- Each turn takes the last pending number: it is skipped, or its block is marked.
use Rattle.std.proofs.Common.{rules, arith, length}
use Rattle.flow.proofs.Reaching.{reaching_start, skip_past, skip_marked, visit_room, visit_less, reaching_visit, reaching_end}
use Rattle.flow.proofs.walk.reach.Goals as goal
use Rattle.flow.proofs.walk.reach.Goals.{else-b-counts-via-then-b-counts+else-not-marks-b, else-b-counts-via-else-b-counts}

pub loop-number-init : goal.loop-number-init
loop-number-init g c =
    rw (c.push.ensures, c.new-pending.ensures)
    (reaching_start (length c.args.counts.now) c.args.first c.args.counts.now c.args.targets.now c.args.marks.now c.requires.same.1 c.requires.clear)

pub push_targets-requires : goal.push_targets-requires
push_targets-requires g c =
    let t = rw c.in-Some.ensures.items at c.loop-number.invariant in
    let room = visit_room c.pop.new.self c.in-Some.number t c.if-b-counts.true c.if-not-marks-b.true in
    (search rules, ((c.if-b-counts.true, c.requires.same.0), omega (arith, room, c.requires.room.0)))

pub loop-number-smaller-then-not-marks-b : goal.loop-number-smaller-then-not-marks-b
loop-number-smaller-then-not-marks-b g c =
    let t = rw c.in-Some.ensures.items at c.loop-number.invariant in
    rw (c.push_targets.ensures, c.in-Some.ensures.items) (visit_less c.pop.new.self c.in-Some.number t c.if-b-counts.true c.if-not-marks-b.true)

pub loop-number-preserved-then-not-marks-b : goal.loop-number-preserved-then-not-marks-b
loop-number-preserved-then-not-marks-b g c =
    let t = rw c.in-Some.ensures.items at c.loop-number.invariant in
    rw c.push_targets.ensures (reaching_visit c.pop.new.self c.in-Some.number t c.if-b-counts.true c.if-not-marks-b.true)

pub loop-number-preserved : goal.loop-number-preserved
loop-number-preserved g c =
    let t = rw c.in-Some.ensures.items at c.loop-number.invariant in
    elim c.else-b-counts.branch [
      | else-b-counts-via-then-b-counts+else-not-marks-b w ↦ skip_marked c.pop.new.self c.in-Some.number t w.if-not-marks-b.false
      | else-b-counts-via-else-b-counts w ↦ skip_past c.pop.new.self c.in-Some.number t w.if-b-counts.false
    ]

pub returns : goal.returns
returns g c = reaching_end (rw c.in_default.ensures.last at c.loop-number.invariant)
