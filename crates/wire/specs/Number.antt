-- Slots and bytes of a program's code.
use Rattle.std.specs.Prelude.{ℕ, ◌*◌}

-- a slot has 8 bytes
abbrev pub bytes_before : ℕ → ℕ
bytes_before slot = 8 * slot
