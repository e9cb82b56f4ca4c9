-- The table of places: at an id's place stands one more than the number of a block, and the block may have the id.
use Rattle.std.specs.Prelude.{ℕ, ◌-◌, ◌%◌, ◌≤◌, ◌<◌, ◌≡◌, if◌then◌else◌, List, ltb, length, get_or}

-- an id's place in a table of so many places
unfoldable pub place_of : ℕ → ℕ → ℕ
place_of len id = (if ltb (id % 4096) len then id % 4096 else id % 4096 % 16)

-- what stands at an id's place
abbrev pub told_at : List ℕ → ℕ → ℕ
told_at places id = get_or places (place_of (length places) id) 0

-- an id's place tells a block that has it
abbrev pub IsPlaced : List ℕ → List ℕ → ℕ → Type 0
IsPlaced ids places id = (0 < told_at places id) × (told_at places id ≤ length ids) × (get_or ids (told_at places id - 1) 0 ≡ id)

-- the place of each of the first n blocks tells that block or a later one of them
abbrev pub Put : ℕ → List ℕ → List ℕ → Type 0
Put n ids places = (i : ℕ) → i < n → (i < told_at places (get_or ids i 0)) × (told_at places (get_or ids i 0) ≤ n)
