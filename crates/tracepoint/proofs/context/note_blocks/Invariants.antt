-- `note_blocks` goes over the blocks; what is left of them always leads to the same end.
use mathlib.Core.Path.{◌≡◌}
use lib.ListN.{length}
use Rattle.passes.proofs.Noting.{Noting}
use Rattle.tracepoint.proofs.context.note_blocks.Given as goal

abbrev pub invariant-loop-k : goal.invariant-loop-k
invariant-loop-k l =
    Noting l.unit l.endings l.frame.variables.now l.frame.hints.now l.initial.marks l.initial.counts l.initial.targets l.marks l.counts l.targets l.n l.k
    × Noting l.unit l.endings l.frame.variables.now l.frame.hints.now l.initial.marks l.initial.counts l.initial.numbers l.marks l.counts l.numbers l.n l.k
    × (length l.counts ≡ length l.initial.counts) × (length l.targets ≡ length l.initial.targets) × (length l.numbers ≡ length l.initial.numbers)
