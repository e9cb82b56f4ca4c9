-- What becomes of the three levels where a slot is put in and where a bit is taken out: d has a bit for each slot, s for each word of d, top for each word of s.
use Rattle.std.specs.Prelude.{ℕ, ◌+◌, ◌-◌, ◌*◌, ◌/◌, ◌%◌, ◌^◌, List, eqb, leb, ltb, Option, Some, None, get_or, set}
use Rattle.std.specs.Int.Bits.{bit_or}
use Rattle.std.specs.Int.Count.{count_trailing_zeros}
use Rattle.wire.specs.Pick.{pick, either}

-- word i with its bit b, and without it where it has it
abbrev pub with_bit : List ℕ → ℕ → ℕ → List ℕ
with_bit l i b = set l i (bit_or (get_or l i 0) (2 ^ b))

abbrev pub without_bit : List ℕ → ℕ → ℕ → List ℕ
without_bit l i b = set l i (get_or l i 0 - 2 ^ b)

-- ---- slot w put in, which is below 131,072 or changes nothing

unfoldable pub marked_low : List ℕ → ℕ → List ℕ
marked_low d w = pick (ltb w 131072) (with_bit d (w / 64) (w % 64)) d

unfoldable pub marked_mid : List ℕ → ℕ → List ℕ
marked_mid s w = pick (ltb w 131072) (with_bit s (w / 64 / 64) (w / 64 % 64)) s

unfoldable pub marked_top : ℕ → ℕ → ℕ
marked_top top w = pick (ltb w 131072) (bit_or top (2 ^ (w / 64 / 64))) top

-- ---- a bit taken out

-- the lowest set bit of a number n other than 0, which has no more than n digits
unfoldable pub lowest_bit : ℕ → ℕ
lowest_bit n = count_trailing_zeros n n

-- the bit that is taken: none, where the top word has none of a word of s; bit i of the top word and bit k of word i of s, where the word below is 0; bit b of word j of d, which is a slot
pub data Lead : Type 0 where
  nowhere : Lead
  to_summary : ℕ → Lead
  to_word : ℕ → ℕ → Lead
  to_slot : ℕ → ℕ → Lead

-- the lowest bits lead there: of the top word, of the word i of s that it names, of the word of d that this one's bit k names
unfoldable pub from_word : ℕ → ℕ → ℕ → Lead
from_word i k word = pick (eqb word 0) (to_word i k) (to_slot (i * 64 + k) (lowest_bit word))

unfoldable pub from_summary : List ℕ → ℕ → ℕ → Lead
from_summary d i word = pick (eqb word 0) (to_summary i) (from_word i (lowest_bit word) (get_or d (i * 64 + lowest_bit word) 0))

unfoldable pub lead : List ℕ → List ℕ → ℕ → Lead
lead d s top = pick (either (eqb top 0) (leb 32 (lowest_bit top))) nowhere (from_summary d (lowest_bit top) (get_or s (lowest_bit top) 0))

-- the levels without that bit, and the slot, or none
unfoldable pub taken_low : List ℕ → Lead → List ℕ
taken_low d nowhere = d
taken_low d (to_summary i) = d
taken_low d (to_word i k) = d
taken_low d (to_slot j b) = without_bit d j b

unfoldable pub taken_mid : List ℕ → Lead → List ℕ
taken_mid s nowhere = s
taken_mid s (to_summary i) = s
taken_mid s (to_word i k) = without_bit s i k
taken_mid s (to_slot j b) = s

unfoldable pub taken_top : ℕ → Lead → ℕ
taken_top top nowhere = 0
taken_top top (to_summary i) = top - 2 ^ i
taken_top top (to_word i k) = top
taken_top top (to_slot j b) = top

unfoldable pub taken : Lead → Option ℕ
taken nowhere = None
taken (to_summary i) = None
taken (to_word i k) = None
taken (to_slot j b) = Some (j * 64 + b)
