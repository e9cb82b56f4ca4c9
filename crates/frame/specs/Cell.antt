-- Cells of the frame, 8 bytes each, from R10 down.
use Rattle.std.specs.Prelude.{ℕ, suc, ◌+◌, ◌*◌, ◌%◌, List, [], ◌∷◌, eqb, ltb, ℤ, negsuc, length, None, Option, Some}
use Rattle.wire.specs.Pick.{pick}

-- cell i has the offset −8(i+1); the frame has 64 cells, and what would lie past the last counts from the first again
unfoldable pub offset_of : ℕ → ℤ
offset_of i = negsuc (8 * (i % 64) + 7)

-- the cell of the variable at index i of n
unfoldable pub cell_at : ℕ → ℕ → Option ℤ
cell_at n i = pick (ltb i n) (Some (offset_of i)) None

-- the cell of a variable, by its place among the sorted variables, counted from i
unfoldable pub cell_from : ℕ → List ℕ → ℕ → Option ℤ
cell_from i [] v = None
cell_from i (x ∷ xs) v = pick (eqb v x) (Some (offset_of i)) (cell_from (suc i) xs v)

-- what lowering knows of the frame: a variable's cell, and the offset of scratch j
pub record Frame : Type 0 where
  pub cell : ℕ → Option ℤ
  pub scratch : ℕ → ℤ

-- sorted ascending, the i-th of n variables has cell i, and scratch j of the ring of eight has cell n + j
unfoldable pub frame_of : List ℕ → Frame
frame_of variables = record { cell = cell_from 0 variables; scratch = λ j. offset_of (length variables + j % 8) }
