-- `by_table` looks for the lowest slot at fault, and else goes by the end.
use Rattle.std.proofs.Common.{ℕ, ◌<◌}
use Rattle.paths.specs.Way.{Clear}
use Rattle.screen.proofs.by_table.Given as goal

abbrev pub invariant-loop-s : goal.invariant-loop-s
invariant-loop-s l = (k : ℕ) → k < l.s → Clear l.code k
