-- A set of slots as bits of words, and the set of a code's starts.
use Rattle.std.specs.Prelude.{ℕ, ◌+◌, ◌/◌, ◌%◌, ◌^◌, ◌<◌, Bool, ◌≡◌, List, eqb, get_or, set}
use Rattle.std.specs.Int.Bits.{bit_or}
use Rattle.wire.specs.Pick.{pick}
use Rattle.wire.specs.Bit.{bit}
use Rattle.shape.specs.Code.{slots, wide, start}

unfoldable pub member : List ℕ → ℕ → Bool
member d u = eqb (bit (get_or d (u / 64) 0) (u % 64)) 1

-- the set with u put in
unfoldable pub with : List ℕ → ℕ → List ℕ
with d u = set d (u / 64) (bit_or (get_or d (u / 64) 0) (2 ^ (u % 64)))

-- the start after the start s
unfoldable pub after : List ℕ → ℕ → ℕ
after b s = pick (wide b s) (s + 2) (s + 1)

-- the slots in the set are the starts
pub record Starts (b d : List ℕ) : Type 0 where
  pub at : (u : ℕ) → u < slots b → member d u ≡ start b u
