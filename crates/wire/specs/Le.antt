-- Little-endian numbers in bytes, the lowest byte first, at each width.
use Rattle.std.specs.Prelude.{ℕ, zero, suc, ◌+◌, ◌*◌, ◌/◌, ◌%◌, ◌<◌, List, [], ◌∷◌, leb, ℤ, length, get_or}
use Rattle.std.proofs.lemmas.List.Edits.{sets}
use Rattle.std.specs.Int.{Width, w8, w16, w32, w64, w128}
use Rattle.std.proofs.Common.{to_z, of_z}
use Rattle.wire.specs.Pick.{pick}

-- how many bytes a number of a width has
abbrev pub octets : Width → ℕ
octets w8 = 1
octets w16 = 2
octets w32 = 4
octets w64 = 8
octets w128 = 16

-- the byte at i, and 0 past the end
abbrev pub byte_at : List ℕ → ℕ → ℕ
byte_at b i = get_or b i 0

-- a list of bytes
pub record Bytes (b : List ℕ) : Type 0 where
  pub at : (i : ℕ) → byte_at b i < 256

-- the number of the n bytes from i on
unfoldable pub le : ℕ → List ℕ → ℕ → ℕ
le zero b i = 0
le (suc n) b i = byte_at b i + 256 * le n b (suc i)

-- the lowest n bytes of x
unfoldable pub bytes_of : ℕ → ℕ → List ℕ
bytes_of zero x = []
bytes_of (suc n) x = x % 256 ∷ bytes_of n (x / 256)

-- the unsigned number at i; one that does not lie whole in b reads as 0
unfoldable pub unsigned_at : Width → List ℕ → ℕ → ℕ
unsigned_at w b i = pick (leb (i + octets w) (length b)) (le (octets w) b i) 0

-- the signed number at i: two's complement, which is the library's `to_z`
unfoldable pub signed_at : Width → List ℕ → ℕ → ℤ
signed_at w b i = to_z w (unsigned_at w b i)

-- the bytes of an unsigned number, and of a signed one, whose bits are the library's `of_z`
unfoldable pub unsigned_bytes : Width → ℕ → List ℕ
unsigned_bytes w x = bytes_of (octets w) x

unfoldable pub signed_bytes : Width → ℤ → List ℕ
signed_bytes w z = unsigned_bytes w (of_z w z)

-- b with the bytes v from i on; bytes that do not lie whole in b are not written
unfoldable pub store : List ℕ → ℕ → List ℕ → List ℕ
store b i v = pick (leb (i + length v) (length b)) (sets b i v) b
