-- The distinct variables, sorted ascending; 10 for more than 56 of them, at the record bringing the 57th.
use Rattle.std.specs.Prelude.{ℕ, ◌≤◌, List, [], ◌∷◌, leb, length}
use Rattle.wire.specs.Pick.{pick}
use Rattle.frame.specs.Variables.{Sorted, insert}
use Rattle.unitfile.specs.Unit.{BasicBlock}
use Rattle.survey.specs.Occurrences.{Occurrence, occurrences}

-- the variables, or the first 56 of them and the place of the record that brings one more
pub data Collected : Type 0 where
  all : List ℕ → Collected
  too_many : ℕ → List ℕ → Collected

unfoldable pub collect : List ℕ → List Occurrence → Collected
collect variables [] = all variables
collect variables (o ∷ os) =
    pick (leb (length (insert o.variable variables)) 56) (collect (insert o.variable variables) os) (too_many o.place variables)

unfoldable pub collected : List BasicBlock → Collected
collected bs = collect [] (occurrences bs)

-- sorted, and at most 56
pub record Fits (l : List ℕ) : Type 0 where
  pub sorted : Sorted l
  pub few : length l ≤ 56
