-- `turn` takes a slot from the set, and visits it where it waits.
use Rattle.std.proofs.Common.{◌<◌, get_or, sym, ◌∙◌, arith}
use Rattle.paths.proofs.Steps.{Taken, took, took_less, took_none, past_none, same_slot}
use Rattle.paths.proofs.work.turn.Goals as goal
use Rattle.paths.proofs.work.turn.Goals.{After-take, else-v-t-via-then-v-t+else-t-v-ge4096, else-v-t-via-else-v-t}

taken : (c : After-take) → Taken c.args.work.now c.take.new.self c.take.result
taken c = let e = c.take.ensures in record { value = e.value; low = e.low; mid = e.mid; top = e.top }

pub visit-requires-clause-kept : goal.visit-requires-clause-kept
visit-requires-clause-kept c =
    took c.args.code.now c.args.t.now c.args.work.now c.requires.work (taken (goal.at.visit-requires-clause-kept c).After-take) c.in-Some.v c.in-Some.is

pub returns-then-t-v-ge4096-clause-result_bound : goal.returns-then-t-v-ge4096-clause-result_bound
returns-then-t-v-ge4096-clause-result_bound c =
    omega (arith, c.visit.ensures.result_bound, took_less c.args.code.now c.args.t.now c.args.work.now c.requires.work (taken (goal.at.returns-then-t-v-ge4096-clause-result_bound c).After-take) c.requires.top_nonzero)

pub returns-else-v-t : goal.returns-else-v-t
returns-else-v-t c =
    let low : get_or c.args.t.now c.in-Some.v 0 < 4096 = elim c.else-v-t.branch [ else-v-t-via-then-v-t+else-t-v-ge4096 w ↦ omega arith | else-v-t-via-else-v-t w ↦ past_none c.args.t.now c.in-Some.v w.if-v-t.false ] in
    let shown = took_none c.args.code.now c.args.t.now c.args.work.now c.requires.work (taken (goal.at.returns-else-v-t c).After-take) c.requires.top_nonzero (λ v e. rw (same_slot (sym e ∙ c.in-Some.is)) low) in
    record { work_2 = shown.0; result_bound = shown.1 }

pub returns-in_default : goal.returns-in_default
returns-in_default c =
    let shown = took_none c.args.code.now c.args.t.now c.args.work.now c.requires.work (taken (goal.at.returns-in_default c).After-take) c.requires.top_nonzero (λ v e. absurd (c.in_default.not-Some v e)) in
    record { work_2 = shown.0; result_bound = shown.1 }
