-- A record is a u16 payload length, a u16 kind, then the payload.
use Rattle.std.specs.Prelude.{ℕ, ◌+◌, Bool, false, List, leb, length}
use Rattle.std.specs.Int.{w16}
use Rattle.wire.specs.Pick.{pick}
use Rattle.wire.specs.Le.{unsigned_at}

abbrev pub length_at : List ℕ → ℕ → ℕ
length_at b at = unsigned_at w16 b at

abbrev pub kind_at : List ℕ → ℕ → ℕ
kind_at b at = unsigned_at w16 b (at + 2)

-- the record at a byte lies whole in b: 4 bytes remain, and its length does not pass the end
unfoldable pub whole_at : List ℕ → ℕ → Bool
whole_at b at = pick (leb (at + 4) (length b)) (leb (at + 4 + length_at b at) (length b)) false

-- the byte after it
unfoldable pub next_at : List ℕ → ℕ → ℕ
next_at b at = at + 4 + length_at b at
