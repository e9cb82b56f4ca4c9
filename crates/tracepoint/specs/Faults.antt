-- What the passes' own faults are as faults of the whole.
use Rattle.std.specs.Prelude.{ℕ}
use Rattle.survey.specs.declared.Fault as survey
use Rattle.survey.specs.declared.Fault.TheVariants as S
use Rattle.lower.specs.declared.Reason.{Reason}
use Rattle.jumps.specs.declared.Astray.{Astray}
use Rattle.jumps.specs.declared.Astray.TheVariants as J
use Rattle.tracepoint.specs.declared.Fault.{Fault}
use Rattle.tracepoint.specs.declared.Fault.TheVariants as F

unfoldable pub of_survey : survey.Fault → Fault
of_survey (S.Reading f) = F.Reading f
of_survey (S.TooMany place) = F.Variables place

abbrev pub of_measure : ℕ × Reason → Fault
of_measure f = F.Instruction f.0 f.1

unfoldable pub of_jumps : Astray → Fault
of_jumps (J.NoTarget place id) = F.NoTarget place id
of_jumps (J.TooFar place id) = F.TooFar place id
