-- `keep` writes where there is room; past the end a store changes nothing.
use mathlib.Core.Path.{sym}
use native.Mathlib.Omega.{arith}
use lib.Seq.{set_out}
use Rattle.survey.proofs.pass.keep.Goals as goal

pub returns-else-i-list : goal.returns-else-i-list
returns-else-i-list c = sym (set_out _ _ _ (omega arith))
