-- Cells that never overlap: those of distinct variables, and those of the scratch ring, each on a multiple of 8 from −512 to −8.
use Rattle.std.specs.Prelude.{◌≡◌, ◌⊎◌, List, ℕ, suc, ◌*◌, ◌%◌, ◌<◌, ℤ, pos, neg_ℤ, ◌+ℤ◌, ◌≤ℤ◌, Some}
use Rattle.frame.specs.Cell.{frame_of}

-- an offset of the frame: −8(i+1) with i below 64, that is a multiple of 8 from −512 to −8
pub record InFrame (z : ℤ) : Type 0 where
  pub number : ℕ
  pub below : number < 64
  pub is : z ≡ neg_ℤ (pos (8 * suc number))

-- 8 bytes from a on, and 8 bytes from b on, none of them in both
abbrev pub Apart : ℤ → ℤ → Type 0
Apart a b = ((a +ℤ pos 8) ≤ℤ b) ⊎ ((b +ℤ pos 8) ≤ℤ a)

-- what holds of the frame of the variables vs, in whatever order they stand
pub record Disjoint (vs : List ℕ) : Type 0 where
  pub cell_inside : (v : ℕ) (a : ℤ) → (frame_of vs).cell v ≡ Some a → InFrame a
  pub scratch_inside : (j : ℕ) → InFrame ((frame_of vs).scratch j)
  pub cells : (v w : ℕ) (a b : ℤ) → (v ≡ w → ⊥) → (frame_of vs).cell v ≡ Some a → (frame_of vs).cell w ≡ Some b → Apart a b
  pub cell_scratch : (v j : ℕ) (a : ℤ) → (frame_of vs).cell v ≡ Some a → Apart a ((frame_of vs).scratch j)
  pub scratches : (j k : ℕ) → (j % 8 ≡ k % 8 → ⊥) → Apart ((frame_of vs).scratch j) ((frame_of vs).scratch k)
