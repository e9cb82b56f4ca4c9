-- A variable's index among the sorted variables, guessed by a table and verified; where the guess is wrong, searched for.
use Rattle.std.specs.Prelude.{ℕ, suc, ◌+◌, ◌%◌, Bool, List, [], ◌∷◌, eqb, ltb, length, get_or, set, Some}
use Rattle.wire.specs.Pick.{pick, both}
use Rattle.frame.specs.Cell.{Frame, offset_of, cell_from}

-- the first index of a variable, counted from i; the index after the last for none
unfoldable pub index_from : ℕ → List ℕ → ℕ → ℕ
index_from i [] v = i
index_from i (x ∷ xs) v = pick (eqb v x) i (index_from (suc i) xs v)

-- the table's guess, and whether the variable stands there
unfoldable pub guess : List ℕ → ℕ → ℕ
guess hints v = get_or hints (v % 256) 0

unfoldable pub stands : List ℕ → ℕ → ℕ → Bool
stands variables i v = both (ltb i (length variables)) (eqb v (get_or variables i 0))

unfoldable pub index_by : List ℕ → List ℕ → ℕ → ℕ
index_by variables hints v = pick (stands variables (guess hints v) v) (guess hints v) (index_from 0 variables v)

-- the frame by guessed indices
unfoldable pub frame_by : List ℕ → List ℕ → Frame
frame_by variables hints =
    record {
      cell = λ v. pick (stands variables (guess hints v) v) (Some (offset_of (guess hints v))) (cell_from 0 variables v);
      scratch = λ j. offset_of (length variables + j % 8);
    }

-- the table with the indices of variables, counted from i: later ones over earlier ones
unfoldable pub hints_from : ℕ → List ℕ → List ℕ → List ℕ
hints_from i [] hints = hints
hints_from i (x ∷ xs) hints = hints_from (suc i) xs (set hints (x % 256) (i % 256))

unfoldable pub hints_of : List ℕ → List ℕ → List ℕ
hints_of variables hints = hints_from 0 variables hints
