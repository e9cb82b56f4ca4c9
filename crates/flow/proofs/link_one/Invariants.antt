use Rattle.std.proofs.Common.{[], ◌∷◌}
use Rattle.flow.proofs.Passes.{Numbered}
use Rattle.flow.proofs.link_one.Given as goal

abbrev pub invariant-loop-target : goal.invariant-loop-target
invariant-loop-target l = Numbered (l.id ∷ []) l.initial.targets l.target-index l.targets
