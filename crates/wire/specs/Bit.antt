-- The bits of a number, bit 0 the lowest.
use Rattle.std.specs.Prelude.{ℕ, ◌/◌, ◌%◌, ◌^◌}

-- bit r, as a number below 2
unfoldable pub bit : ℕ → ℕ → ℕ
bit x r = x / 2 ^ r % 2
