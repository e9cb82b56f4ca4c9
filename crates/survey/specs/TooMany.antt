-- What the collected variables are: those that occur, each once; and when they are too many, 10 at the record bringing the 57th.
use Rattle.std.specs.Prelude.{◌≡◌, ℕ, suc, Bool, false, List, [], ◌∷◌, ◌++◌, eqb, length}
use Rattle.wire.specs.Pick.{pick, either}
use Rattle.frame.specs.Variables.{Sorted}
use Rattle.unitfile.specs.Unit.{BasicBlock}
use Rattle.survey.specs.Occurrences.{Occurrence, occurrences}
use Rattle.survey.specs.Collected.{all, too_many, collected}
use Rattle.survey.specs.Surveyed.{variables_of}

-- whether one of the occurrences is of the variable v
unfoldable pub named : ℕ → List Occurrence → Bool
named v [] = false
named v (o ∷ os) = either (eqb v o.variable) (named v os)

-- how many distinct variables they name; each counts where it comes last
unfoldable pub distinct : List Occurrence → ℕ
distinct [] = 0
distinct (o ∷ os) = pick (named o.variable os) (distinct os) (suc (distinct os))

-- in file order, the 57th distinct variable is named by the record at a place: 56 come before it, and it is none of them
pub record Brings57th (os : List Occurrence) (place : ℕ) : Type 0 where
  pub earlier : List Occurrence
  pub here : Occurrence
  pub later : List Occurrence
  pub are : os ≡ earlier ++ (here ∷ later)
  pub at : here.place ≡ place
  pub before : distinct earlier ≡ 56
  pub new : named here.variable earlier ≡ false

-- whether v is one of the variables vs
unfoldable pub is_in : ℕ → List ℕ → Bool
is_in v [] = false
is_in v (x ∷ xs) = either (eqb v x) (is_in v xs)

-- vs are the variables that os name, sorted, each once
pub record Exactly (os : List Occurrence) (vs : List ℕ) : Type 0 where
  pub sorted : Sorted vs
  pub size : length vs ≡ distinct os
  pub same : (v : ℕ) → is_in v vs ≡ named v os

-- of the variables of a unit's blocks: 10 comes exactly where there is a 57th, at its place; otherwise all are collected
pub record TenExactly (bs : List BasicBlock) : Type 0 where
  pub told : (place : ℕ) (vs : List ℕ) → collected bs ≡ too_many place vs → Brings57th (occurrences bs) place
  pub comes : (place : ℕ) → Brings57th (occurrences bs) place → collected bs ≡ too_many place (variables_of (collected bs))
  pub otherwise : (vs : List ℕ) → collected bs ≡ all vs → Exactly (occurrences bs) vs
