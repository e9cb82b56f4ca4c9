-- The lines of a listing: what is printed of a compiled unit, and of a refusal.
use Rattle.std.specs.Prelude.{ℕ, zero, suc, ◌+◌, List, [], ◌++◌, leb, nat_abs, length}
use Rattle.std.specs.Int.{w64}
use Rattle.wire.specs.Pick.{pick}
use Rattle.wire.specs.Le.{unsigned_at, unsigned_bytes}
use Rattle.wire.specs.Number.{bytes_before}
use Rattle.wire.specs.declared.refusal.Refusal.{Refusal}
use Rattle.text.specs.Ascii.{ascii}
use Rattle.text.specs.Digits.{decimal, sign, hex, shown_name}

-- the 8 bytes of a slot; one that does not lie whole in the code reads as zeros
unfoldable pub slot_bytes : List ℕ → ℕ → List ℕ
slot_bytes code slot = unsigned_bytes w64 (unsigned_at w64 code (bytes_before slot))

-- "slots 11 relocs 1"
unfoldable pub counts_line : ℕ → ℕ → List ℕ
counts_line slots relocs = ascii "slots " ++ decimal slots ++ ascii " relocs " ++ decimal relocs ++ ascii "\n"

-- "0 bf16000000000000": a slot and its 8 bytes
unfoldable pub slot_line : ℕ → List ℕ → List ℕ
slot_line slot bytes = decimal slot ++ ascii " " ++ hex bytes ++ ascii "\n"

-- n slots of a code, from one on
unfoldable pub slot_lines : List ℕ → ℕ → ℕ → List ℕ
slot_lines code slot zero = []
slot_lines code slot (suc n) = slot_line slot (slot_bytes code slot) ++ slot_lines code (suc slot) n

-- "reloc 8 seen": a relocation's byte offset and its map's name
unfoldable pub reloc_line : ℕ → List ℕ → List ℕ
reloc_line offset name = ascii "reloc " ++ decimal offset ++ ascii " " ++ shown_name name ++ ascii "\n"

-- "refused 12 at 60 value -1"
unfoldable pub refused_line : Refusal → List ℕ
refused_line r =
    ascii "refused " ++ decimal r.number ++ ascii " at " ++ decimal r.place ++ ascii " value " ++ sign r.value ++ decimal (nat_abs r.value) ++ ascii "\n"

-- the place after the text v, put into b at a place; text that does not lie whole in b is not written
unfoldable pub after : List ℕ → ℕ → List ℕ → ℕ
after b at v = pick (leb (at + length v) (length b)) (at + length v) at
