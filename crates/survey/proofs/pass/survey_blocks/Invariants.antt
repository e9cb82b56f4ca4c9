-- `survey_blocks` goes from block to block; what is left of them always leads to the same end.
use mathlib.Core.Path.{◌≡◌}
use Prim.Native.Nat.{◌≤◌}
use lib.ListN.{length}
use Rattle.unitfile.specs.Unit.{parse}
use Rattle.survey.specs.Surveyed.{blocks_of}
use Rattle.survey.proofs.Left.{Left}
use Rattle.survey.proofs.pass.survey_blocks.Given as goal

abbrev pub invariant-loop-k : goal.invariant-loop-k
invariant-loop-k l =
    Left l.unit l.initial.variables l.initial.ids l.initial.endings l.variables l.ids l.endings l.at l.k l.tally × (l.n ≡ length (blocks_of (parse l.unit))) × (length l.unit ≤ 262144) × (l.n ≤ 1024)
