-- The pass over the slots: where nothing is lacking, the slot is clear; the lowest lacking register is 38's; then the end.
use mathlib.Core.Path.{◌≡◌}
use mathlib.Core.List.{List}
use Prim.Native.Nat.{ℕ, ◌<◌}
use lib.Count.{count_trailing_zeros}
use lib.ListN.{length}
use borrow.Author.Tests.{lt-ltb, le-leb}
use Rattle.shape.specs.Code.{slots}
use Rattle.paths.specs.Way.{Clear, Lacking}
use Rattle.paths.specs.Mask.{read_mask, lacking}
use Rattle.paths.specs.Readable.{Readable, Filled, fits, Told, Analysed}
use Rattle.paths.specs.declared.Ends.{Ends}
use Rattle.paths.specs.declared.Ends.TheVariants as E
use Rattle.paths.proofs.Lacking.{lacking_first, all_read}
use Rattle.screen.specs.Verdict.{Judged, passed, past}
use Rattle.screen.specs.Parts.{Apt, ended_of}

-- the analysis runs
pub ran : (b t u : List ℕ) (e : Ends) → Apt b (length t) → Analysed b t u e → Filled b t u × Told b e
unfolding fits
ran b t u e A p = simp (lt-ltb 0 (slots b) A.some, le-leb (slots b) 131072 A.most, le-leb (slots b) (length t) A.room) at p

module _ (b : List ℕ) (entries : ℕ) (A : Apt b entries) (s x : ℕ) (h : s < slots b) (X : Readable b s x) where
  pub clear : lacking (read_mask b s) x ≡ 0 → Clear b s
  clear z r e = all_read b s x h X z r (A.low s r h e) e

  pub first : 0 < lacking (read_mask b s) x → Lacking b s (count_trailing_zeros 16 (lacking (read_mask b s) x))
  first = lacking_first b s x h X

pub at_end : (b : List ℕ) (e : Ends) → ((s : ℕ) → s < slots b → Clear b s) → Told b e → Judged b (ended_of e (slots b))
unfolding ended_of
at_end b E.Inside c p = passed c p
at_end b E.Past c p = past c p
at_end b E.NotRun c p = absurd p
