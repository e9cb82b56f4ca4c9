-- Lines as they are printed: 01's P2, a name that is not all shown, and refusals.
use Rattle.std.specs.Prelude.{◌≡◌, List, [], ◌∷◌, ◌++◌, ℕ, pos, negsuc}
use Rattle.text.specs.Ascii.{ascii}
use Rattle.text.specs.Lines.{counts_line, slot_lines, reloc_line, refused_line}

-- P2's code, a slot a row
unfoldable pub code_p2 : List ℕ
code_p2 =
    (0xbf ∷ 0x16 ∷ 0x00 ∷ 0x00 ∷ 0x00 ∷ 0x00 ∷ 0x00 ∷ 0x00 ∷ [])
    ++ (0x18 ∷ 0x11 ∷ 0x00 ∷ 0x00 ∷ 0x00 ∷ 0x00 ∷ 0x00 ∷ 0x00 ∷ [])
    ++ (0x00 ∷ 0x00 ∷ 0x00 ∷ 0x00 ∷ 0x00 ∷ 0x00 ∷ 0x00 ∷ 0x00 ∷ [])
    ++ (0xb7 ∷ 0x02 ∷ 0x00 ∷ 0x00 ∷ 0x05 ∷ 0x00 ∷ 0x00 ∷ 0x00 ∷ [])
    ++ (0x7b ∷ 0x2a ∷ 0xf0 ∷ 0xff ∷ 0x00 ∷ 0x00 ∷ 0x00 ∷ 0x00 ∷ [])
    ++ (0xbf ∷ 0xa2 ∷ 0x00 ∷ 0x00 ∷ 0x00 ∷ 0x00 ∷ 0x00 ∷ 0x00 ∷ [])
    ++ (0x07 ∷ 0x02 ∷ 0x00 ∷ 0x00 ∷ 0xf0 ∷ 0xff ∷ 0xff ∷ 0xff ∷ [])
    ++ (0x85 ∷ 0x00 ∷ 0x00 ∷ 0x00 ∷ 0x01 ∷ 0x00 ∷ 0x00 ∷ 0x00 ∷ [])
    ++ (0x7b ∷ 0x0a ∷ 0xf8 ∷ 0xff ∷ 0x00 ∷ 0x00 ∷ 0x00 ∷ 0x00 ∷ [])
    ++ (0x79 ∷ 0xa0 ∷ 0xf8 ∷ 0xff ∷ 0x00 ∷ 0x00 ∷ 0x00 ∷ 0x00 ∷ [])
    ++ (0x95 ∷ 0x00 ∷ 0x00 ∷ 0x00 ∷ 0x00 ∷ 0x00 ∷ 0x00 ∷ 0x00 ∷ [])

-- and its listing
unfoldable pub listing_p2 : List ℕ
listing_p2 =
    ascii "slots 11 relocs 1\n"
    ++ ascii "0 bf16000000000000\n"
    ++ ascii "1 1811000000000000\n"
    ++ ascii "2 0000000000000000\n"
    ++ ascii "3 b702000005000000\n"
    ++ ascii "4 7b2af0ff00000000\n"
    ++ ascii "5 bfa2000000000000\n"
    ++ ascii "6 07020000f0ffffff\n"
    ++ ascii "7 8500000001000000\n"
    ++ ascii "8 7b0af8ff00000000\n"
    ++ ascii "9 79a0f8ff00000000\n"
    ++ ascii "10 9500000000000000\n"
    ++ ascii "reloc 8 seen\n"

pub record Known : Type 0 where
  pub listing : counts_line 11 1 ++ slot_lines code_p2 0 11 ++ reloc_line 8 (ascii "seen") ≡ listing_p2
  -- of the bytes 0x20, 0x21, 0x7e, 0x7f the first and the last are not shown
  pub hidden : reloc_line 0 (0x20 ∷ 0x21 ∷ 0x7e ∷ 0x7f ∷ []) ≡ ascii "reloc 0 ?!~?\n"
  pub refused : refused_line (record { number = 12; place = 60; value = pos 2147483648 }) ≡ ascii "refused 12 at 60 value 2147483648\n"
  pub negative : refused_line (record { number = 13; place = 0; value = negsuc 32768 }) ≡ ascii "refused 13 at 0 value -32769\n"
