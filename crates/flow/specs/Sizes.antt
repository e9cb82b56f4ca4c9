-- How long the lists and tables are.
use Rattle.std.specs.Prelude.{ℕ, ◌*◌, ◌≤◌, ◌<◌, ◌≡◌, List, length}

-- lists of as many blocks as there are ids
abbrev pub Alike : List ℕ → List ℕ → List ℕ → List ℕ → Type 0
Alike ids counts targets emitted = (length counts ≡ length ids) × (length targets ≡ 2 * length ids) × (length emitted ≡ length ids)

-- there is a block at least, and tables for so many blocks and pending numbers hold them
abbrev pub Hold : ℕ → ℕ → List ℕ → Type 0
Hold blocks pending ids = (0 < length ids) × (length ids ≤ blocks) × (blocks ≤ 1024) × (2 * blocks < pending) × (pending < 4096)
