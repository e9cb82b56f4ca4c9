-- The blocks' sort keys.
use Rattle.std.specs.Prelude.{ℕ, suc, ◌+◌, ◌*◌, List, [], ◌∷◌}

-- id * 1024 + number, from block i on
unfoldable pub keys_from : ℕ → List ℕ → List ℕ
keys_from i [] = []
keys_from i (id ∷ ids) = (id * 1024 + i) ∷ keys_from (suc i) ids
