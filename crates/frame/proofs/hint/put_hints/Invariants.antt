-- `put_hints` puts the index of one variable after the other.
use Rattle.std.proofs.Common.{◌≡◌, drop}
use Rattle.frame.specs.Hint.{hints_from}
use Rattle.frame.proofs.hint.put_hints.Given as goal

abbrev pub invariant-loop-k : goal.invariant-loop-k
invariant-loop-k l = hints_from l.k (drop l.k l.variables) l.hints ≡ hints_from 0 l.variables l.initial.hints
