-- A slot's bytes, and how many bytes each line has.
use mathlib.Core.Path.{◌≡◌}
use mathlib.Core.List.{List}
use Prim.Native.Nat.{ℕ, ◌+◌, ◌≤◌}
use native.Mathlib.Omega.{arith}
use lib.IntN.{nat_abs}
use lib.ListN.{length, take, drop, length-append}
use mir.Syntax.{w64}
use Rattle.wire.specs.declared.refusal.Refusal.{Refusal}
use Rattle.wire.specs.Le.{Bytes}
use Rattle.wire.specs.Number.{bytes_before}
use Rattle.wire.proofs.Le.{unsigned_length, bytes_of_unsigned}
use Rattle.text.specs.Ascii.{ascii}
use Rattle.text.specs.Digits.{decimal, sign}
use Rattle.text.specs.Lines.{slot_bytes, counts_line, slot_line, reloc_line, refused_line}
use Rattle.text.proofs.Steps.{hex_length, name_length}

-- a slot that lies in the code is printed by its bytes there
pub slot_bytes_lem : (code : List ℕ) (slot : ℕ) → Bytes code → bytes_before slot + 8 ≤ length code → slot_bytes code slot ≡ take 8 (drop (bytes_before slot) code)
unfolding slot_bytes
slot_bytes_lem code slot h l = bytes_of_unsigned w64 code (bytes_before slot) h l

pub counts_length : (slots relocs : ℕ) → length (counts_line slots relocs) ≡ 15 + length (decimal slots) + length (decimal relocs)
unfolding counts_line ascii
counts_length slots relocs = simp length-append (omega arith)

pub slot_length : (slot : ℕ) (code : List ℕ) → length (slot_line slot (slot_bytes code slot)) ≡ 18 + length (decimal slot)
unfolding slot_line slot_bytes ascii
slot_length slot code = simp (length-append, hex_length, unsigned_length) (omega arith)

pub reloc_length : (offset : ℕ) (name : List ℕ) → length (reloc_line offset name) ≡ 8 + length (decimal offset) + length name
unfolding reloc_line ascii
reloc_length offset name = simp (length-append, name_length) (omega arith)

pub refused_length : (r : Refusal) → length (refused_line r) ≡ 20 + length (decimal r.number) + length (decimal r.place) + length (sign r.value) + length (decimal (nat_abs r.value))
unfolding refused_line ascii
refused_length r = simp length-append (omega arith)
