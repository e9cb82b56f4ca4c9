-- The helpers that may be called, and how many arguments each takes.
use Rattle.std.specs.Prelude.{ℕ, Bool, true, false, List, [], ◌∷◌, eqb, ℤ, pos, negsuc, None, Option, Some}
use Rattle.wire.specs.Pick.{pick}

-- its number, and how many arguments it takes, in R1 and on
unfoldable pub helpers : List (ℕ × ℕ)
helpers = (1, 2) ∷ (2, 4) ∷ (5, 0) ∷ (14, 0) ∷ (15, 0) ∷ (35, 0) ∷ (113, 3) ∷ (114, 3) ∷ (115, 3) ∷ (131, 3) ∷ (132, 2) ∷ []

unfoldable pub among : List (ℕ × ℕ) → ℕ → Option ℕ
among [] n = None
among (h ∷ hs) n = pick (eqb n h.0) (Some h.1) (among hs n)

-- the helper of a call's imm
unfoldable pub helper_of : ℤ → Option ℕ
helper_of (pos n) = among helpers n
helper_of (negsuc n) = None

unfoldable pub is_helper : Option ℕ → Bool
is_helper None = false
is_helper (Some n) = true

-- how many arguments; what is no helper takes none
unfoldable pub arguments : Option ℕ → ℕ
arguments None = 0
arguments (Some n) = n
