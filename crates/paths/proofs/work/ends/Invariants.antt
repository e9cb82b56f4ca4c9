-- `ends` looks for a slot to which a path has come and that leads past the last.
use Rattle.std.proofs.Common.{◌≡◌, ℕ, ◌<◌, false}
use Rattle.paths.specs.Work.{leaving}
use Rattle.paths.proofs.work.ends.Given as goal

abbrev pub invariant-loop-v : goal.invariant-loop-v
invariant-loop-v l = (k : ℕ) → k < l.v → leaving l.code l.t k ≡ false
