-- Numbers and names as the bytes of text.
use Prim.Native.Char.{code}
use Rattle.std.specs.Prelude.{ℕ, zero, suc, ◌+◌, ◌*◌, ◌-◌, ◌/◌, ◌%◌, List, [], ◌∷◌, ◌++◌, leb, ltb, ℤ, pos, negsuc}
use Rattle.wire.specs.Pick.{pick, both}
use Rattle.text.specs.Ascii.{ascii}

-- the byte of a digit: 0 to 9, then a to f
unfoldable pub digit : ℕ → ℕ
digit d = pick (ltb d 10) (48 + d) (87 + d)

-- the decimal digits of n, at most so many, the highest first and no zero before it
unfoldable pub digits_of : ℕ → ℕ → List ℕ
digits_of zero n = []
digits_of (suc most) n = pick (ltb n 10) (digit n ∷ []) (digits_of most (n / 10) ++ (digit (n % 10) ∷ []))

-- a number of 64 bits has at most 20
unfoldable pub decimal : ℕ → List ℕ
decimal n = digits_of 20 n

-- the number that decimal digits say
abbrev pub value_from : ℕ → List ℕ → ℕ
value_from v [] = v
value_from v (d ∷ l) = value_from (10 * v + (d - 48)) l

abbrev pub value_of : List ℕ → ℕ
value_of l = value_from 0 l

-- a minus where the number is negative
unfoldable pub sign : ℤ → List ℕ
sign (pos n) = []
sign (negsuc n) = ascii "-"

-- two hexadecimal digits for each byte, the higher first
unfoldable pub hex : List ℕ → List ℕ
hex [] = []
hex (x ∷ xs) = digit (x / 16) ∷ digit (x % 16) ∷ hex xs

-- bytes outside 0x21 to 0x7e as a question mark
unfoldable pub shown : ℕ → ℕ
shown x = pick (both (leb 0x21 x) (leb x 0x7e)) x (code "?")

unfoldable pub shown_name : List ℕ → List ℕ
shown_name [] = []
shown_name (x ∷ xs) = shown x ∷ shown_name xs
