-- Blocks as they are for control flow: an id and the ids it goes to. An id means the last block that has it.
use Rattle.std.specs.Prelude.{ℕ, Bool, false, List, [], ◌∷◌, eqb}
use Rattle.wire.specs.Pick.{pick, either}

pub record Node : Type 0 where
  pub id : ℕ
  pub targets : List ℕ

unfoldable pub among : ℕ → List ℕ → Bool
among x [] = false
among x (y ∷ ys) = either (eqb x y) (among x ys)

-- a block of an id, or none
pub data Found : Type 0 where
  found : Node → Found
  none : Found

unfoldable pub or_this : Found → Node → ℕ → Found
or_this (found m) n id = found m
or_this none n id = pick (eqb n.id id) (found n) none

-- the last block that has an id
unfoldable pub last_with : List Node → ℕ → Found
last_with [] id = none
last_with (n ∷ ns) id = or_this (last_with ns id) n id
