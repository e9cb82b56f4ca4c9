use Rattle.std.proofs.Common.{◌+◌, ◌*◌, length}
use Rattle.flow.proofs.Reaching.{Reaching, unmarked}
use Rattle.flow.proofs.walk.reach.Given as goal

abbrev pub invariant-loop-number : goal.invariant-loop-number
invariant-loop-number g l = Reaching (length l.counts) l.first l.counts l.targets l.marks l.pending

abbrev pub decreases-loop-number : goal.decreases-loop-number
decreases-loop-number g l = 2 * unmarked (length l.counts) l.marks + length l.pending
