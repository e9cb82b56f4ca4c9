-- `relax` lowers one mask.
use Rattle.paths.specs.Work.{Relaxed.nowhere, Relaxed.past, Relaxed.same, Relaxed.pushed, Relaxed.again}
use Rattle.paths.proofs.work.relax.Goals as goal

pub returns-in_default : goal.returns-in_default
returns-in_default c = rw c.in_default.is nowhere

pub returns-then-x-lt4096 : goal.returns-then-x-lt4096
returns-then-x-lt4096 c =
    let m = c.mark.ensures in rw c.in-Some.is (pushed c.if-v-t.true c.if-x-lt4096.true c.if-new-old.true (record { low = m.low; mid = m.mid; top = m.top }))

pub returns-else-x-lt4096 : goal.returns-else-x-lt4096
returns-else-x-lt4096 c = rw c.in-Some.is (again c.if-v-t.true c.if-x-lt4096.false c.if-new-old.true)

pub returns-else-new-old : goal.returns-else-new-old
returns-else-new-old c = rw c.in-Some.is (same c.if-v-t.true c.if-new-old.false)

pub returns-else-v-t : goal.returns-else-v-t
returns-else-v-t c = rw c.in-Some.is (past c.if-v-t.false)
