-- `run` goes on until nothing waits.
use Rattle.std.proofs.Common.{◌≡◌, length}
use Rattle.paths.specs.Work.{Work, left}
use Rattle.paths.proofs.work.run.Given as goal

abbrev pub invariant-loop-work : goal.invariant-loop-work
invariant-loop-work l = (length l.t ≡ length l.initial.t) × Work l.code l.t l.work

abbrev pub decreases-loop-work : goal.decreases-loop-work
decreases-loop-work l = left l.t l.work
