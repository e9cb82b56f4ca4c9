-- Reached: the first block's id, then the targets of the last block of each reached id; the least such set.
use Rattle.std.specs.Prelude.{ℕ, true, ◌≡◌, List, ◌∷◌}
use Rattle.flow.specs.Node.{Node, among, found, last_with}

pub data Reached : List Node → ℕ → Type 0 where
  first : {n : Node} {ns : List Node} → Reached (n ∷ ns) n.id
  target : {ns : List Node} {id t : ℕ} {n : Node} → Reached ns id → last_with ns id ≡ found n → among t n.targets ≡ true → Reached ns t
