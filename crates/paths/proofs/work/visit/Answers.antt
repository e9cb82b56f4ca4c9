-- `visit` lowers the slots after one that waits no more.
use Rattle.paths.specs.Work.{through}
use Rattle.paths.proofs.Steps.{visited}
use Rattle.paths.proofs.work.visit.Goals as goal

pub returns : goal.returns
unfolding through
returns c =
    let e = c.node_at-x.ensures in
    let q = c.requires in
    let shown = visited c.args.code.now c.args.t.now c.args.work.now c.args.v q.table q.kept q.v_in_bounds.0 q.v_in_bounds.1 (rw e at c.relax.ensures) (rw e at c.relax-2.ensures) in
    record { work = shown.0; result_bound = shown.1 }
