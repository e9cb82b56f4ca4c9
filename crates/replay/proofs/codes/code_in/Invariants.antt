use Rattle.std.proofs.Common.{◌≤◌, length}
use Rattle.replay.proofs.codes.code_in.Given as goal

abbrev pub invariant-loop : goal.invariant-loop
invariant-loop g l = l.at ≤ length l.code
