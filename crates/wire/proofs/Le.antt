-- Reading, once for every width: numbers in bytes, and the bytes of numbers.
use mathlib.Core.Path.{◌≡◌, refl, ap, ◌∙◌, sym}
use mathlib.Core.Bool.{Bool, true, false}
use mathlib.Core.List.{List, [], ◌∷◌, ◌++◌}
use Prim.Native.Nat.{ℕ, zero, suc, ◌+◌, ◌*◌, ◌/◌, ◌%◌, ◌^◌, ◌<◌, ◌≤◌}
use native.Mathlib.Nat.{add-zero, add_assoc, zero-add, add-suc, suc-add, mul_assoc, mul_comm, pow-succ', div-one, div-div-eq-div-mul}
use native.Mathlib.Omega.{arith}
use borrow.Author.Tests.{le-leb, lt-leb}
use lib.Dec.{leb}
use lib.IntN.{ℤ}
use lib.ListN.{length, get_or, take, drop, replicate, length-append, get_or-append, get_or-replicate}
use Rattle.std.proofs.lemmas.List.{get_or-take, get_or-drop, take_rest}
use lib.Seq.{drop-cons, get_or-append-add}
use mir.Syntax.{Width, w8, w16, w32, w64, w128}
use mir.Val.{SFits, to_z, of_z, bits}
use mir.ValLaws.{to_z-of_z, of_z-to_z, of_z_fits}
use Rattle.std.specs.Int.{from_le_bytes, to_le_bytes, sum_through, byte_worth, bytes_low_first}
use Rattle.wire.specs.Pick.{pick}
use Rattle.wire.specs.Le.{octets, Bytes, le, bytes_of, unsigned_at, signed_at, unsigned_bytes, signed_bytes}

pub bytes_append : (p q : List ℕ) → Bytes p → Bytes q → Bytes (p ++ q)
bytes_append p q h l = record { at = go p h.at }
  where
    go : (p : List ℕ) → ((i : ℕ) → get_or p i 0 < 256) → (i : ℕ) → get_or (p ++ q) i 0 < 256
    go [] h i = l.at i
    go (a ∷ p) h zero = h 0
    go (a ∷ p) h (suc i) = go p (λ k. h (suc k)) i

-- ---- n bytes

-- two places that hold the same n bytes hold the same number
pub le_same : (n : ℕ) (b c : List ℕ) (i j : ℕ) → ((k : ℕ) → k < n → get_or b (i + k) 0 ≡ get_or c (j + k) 0) → le n b i ≡ le n c j
unfolding le
le_same zero b c i j h = refl
le_same (suc n) b c i j h =
    let first : get_or b i 0 ≡ get_or c j 0 = simp add-zero at (h 0 (omega arith)) in
    let rest : le n b (suc i) ≡ le n c (suc j) = le_same n b c (suc i) (suc j) (λ k l. simp suc-add (simp add-suc at (h (suc k) (omega arith)))) in
    cc

-- m bytes and then n bytes
pub le_split : (m n : ℕ) (b : List ℕ) (i : ℕ) → le (m + n) b i ≡ le m b i + 256 ^ m * le n b (i + m)
unfolding le
le_split zero n b i = simp (zero-add, add-zero) (omega arith)
le_split (suc m) n b i =
    let rest = le_split m n b (suc i) in
    let more : 256 ^ suc m * le n b (i + suc m) ≡ 256 * (256 ^ m * le n b (suc i + m)) = simp (pow-succ', mul_assoc, add-suc, suc-add) in
    rw suc-add (omega (arith, rest, more))

pub le_below : (n : ℕ) (b : List ℕ) (i : ℕ) → Bytes b → le n b i < 256 ^ n
unfolding le
le_below zero b i h = omega arith
le_below (suc n) b i h = omega (arith, h.at i, le_below n b (suc i) h, pow-succ' 256 n)

-- ---- the bytes of a number

pub bytes_of_length : (n x : ℕ) → length (bytes_of n x) ≡ n
unfolding bytes_of
bytes_of_length zero x = refl
bytes_of_length (suc n) x = ap suc (bytes_of_length n (x / 256))

bytes_of_bytes : (n x i : ℕ) → get_or (bytes_of n x) i 0 < 256
unfolding bytes_of
bytes_of_bytes zero x i = omega arith
bytes_of_bytes (suc n) x zero = omega arith
bytes_of_bytes (suc n) x (suc i) = bytes_of_bytes n (x / 256) i

pub bytes_of_split : (m n x : ℕ) → bytes_of (m + n) x ≡ bytes_of m x ++ bytes_of n (x / 256 ^ m)
unfolding bytes_of
bytes_of_split zero n x = simp (zero-add, div-one)
bytes_of_split (suc m) n x = rw suc-add (ap (λ (l : List ℕ). x % 256 ∷ l) (bytes_of_split m n (x / 256) ∙ simp (div-div-eq-div-mul, pow-succ')))

-- n bytes taken out hold the number that they hold where they stand, and zeros hold 0
pub le_taken : (n : ℕ) (b : List ℕ) (i : ℕ) → le n b i ≡ le n (take n (drop i b)) 0
le_taken n b i = le_same n b (take n (drop i b)) i 0 (λ k l. rw zero-add (sym (get_or-take n (drop i b) k 0 l ∙ get_or-drop i b k 0)))

le_zeros : (n i : ℕ) → le n (replicate (i + n) 0) i ≡ 0
unfolding le
le_zeros zero i = refl
le_zeros (suc n) i =
    let l : List ℕ = replicate (i + suc n) 0 in
    let first : get_or l i 0 ≡ 0 = get_or-replicate (i + suc n) i 0 0 (omega arith) in
    let rest : le n l (suc i) ≡ 0 = ap (λ (k : ℕ). le n (replicate k 0) (suc i)) (omega arith) ∙ le_zeros n (suc i) in
    omega (arith, first, rest)

pub le_zero : (n : ℕ) → le n (replicate n 0) 0 ≡ 0
le_zero n = rw zero-add at (le_zeros n 0)

le_cons : (n a : ℕ) (b : List ℕ) (i : ℕ) → le n (a ∷ b) (suc i) ≡ le n b i
le_cons n a b i = le_same n (a ∷ b) b (suc i) i (λ k l. simp suc-add)

-- the number that was written is read
le_bytes_of : (n x : ℕ) → x < 256 ^ n → le n (bytes_of n x) 0 ≡ x
unfolding le bytes_of
le_bytes_of zero x h = omega arith
le_bytes_of (suc n) x h =
    let rest = le_cons n (x % 256) (bytes_of n (x / 256)) 0 ∙ le_bytes_of n (x / 256) (omega (arith, pow-succ' 256 n)) in
    omega (arith, rest)

-- and the bytes that were read are written
bytes_of_le : (n : ℕ) (b : List ℕ) (i : ℕ) → Bytes b → i + n ≤ length b → bytes_of n (le n b i) ≡ take n (drop i b)
unfolding le bytes_of
bytes_of_le zero b i h l = refl
bytes_of_le (suc n) b i h l =
    let low : (get_or b i 0 + 256 * le n b (suc i)) % 256 ≡ get_or b i 0 = omega (arith, h.at i) in
    let high : (get_or b i 0 + 256 * le n b (suc i)) / 256 ≡ le n b (suc i) = omega (arith, h.at i) in
    rw (low, high, drop-cons b i 0 (omega arith)) (ap (λ (t : List ℕ). get_or b i 0 ∷ t) (bytes_of_le n b (suc i) h (omega arith)))

-- ---- a number of a width

-- the library reads the same number, and writes the same bytes
le_one : (b : List ℕ) (i : ℕ) → le 1 b i ≡ get_or b i 0
unfolding le
le_one b i = omega arith

through : (k : ℕ) (b : List ℕ) → sum_through (λ j. byte_worth j (get_or b j 0)) k ≡ le (suc k) b 0
through zero b = sym (le_one b 0)
through (suc k) b =
    let last : le (suc k + 1) b 0 ≡ le (suc k) b 0 + 256 ^ suc k * get_or b (suc k) 0 = le_split (suc k) 1 b 0 ∙ ap (λ (x : ℕ). le (suc k) b 0 + 256 ^ suc k * x) (rw zero-add (le_one b (suc k))) in
    let same : le (suc (suc k)) b 0 ≡ le (suc k + 1) b 0 = ap (λ (n : ℕ). le n b 0) (omega arith) in
    rw (same, last, through k b, mul_comm (get_or b (suc k) 0) (256 ^ suc k))

pub from_le_16 : (b : List ℕ) → le 2 b 0 ≡ from_le_bytes w16 b
from_le_16 b = sym (through 1 b)

pub from_le_32 : (b : List ℕ) → le 4 b 0 ≡ from_le_bytes w32 b
from_le_32 b = sym (through 3 b)

pub from_le_64 : (b : List ℕ) → le 8 b 0 ≡ from_le_bytes w64 b
from_le_64 b = sym (through 7 b)

low_first : (i k x : ℕ) → bytes_low_first i k x ≡ bytes_of k (x / 256 ^ i)
unfolding bytes_of
low_first i zero x = refl
low_first zero (suc k) x = rw (low_first 1 k x, div-one)
low_first (suc i) (suc k) x = rw (low_first (suc (suc i)) k x, div-div-eq-div-mul, pow-succ' 256 (suc i), mul_comm 256 (256 ^ suc i))

pub to_le : (w : Width) (x : ℕ) → unsigned_bytes w x ≡ to_le_bytes w x
unfolding unsigned_bytes
to_le w8 x = sym (low_first 0 1 x ∙ ap (bytes_of 1) (div-one x))
to_le w16 x = sym (low_first 0 2 x ∙ ap (bytes_of 2) (div-one x))
to_le w32 x = sym (low_first 0 4 x ∙ ap (bytes_of 4) (div-one x))
to_le w64 x = sym (low_first 0 8 x ∙ ap (bytes_of 8) (div-one x))
to_le w128 x = sym (low_first 0 16 x ∙ ap (bytes_of 16) (div-one x))

-- what the functions that read and write go by
pub ruleset library = (le_taken, take_rest, le_zero, from_le_16, from_le_32, from_le_64, to_le)

-- every width has whole bytes
width : (w : Width) → 256 ^ octets w ≡ 2 ^ bits w
width w8 = refl
width w16 = refl
width w32 = refl
width w64 = refl
width w128 = refl

pick_below : (t : Bool) (x y m : ℕ) → x < m → y < m → pick t x y < m
pick_below true x y m h l = h
pick_below false x y m h l = l

module _ (w : Width) where
  pub unsigned_length : (x : ℕ) → length (unsigned_bytes w x) ≡ octets w
  unfolding unsigned_bytes
  unsigned_length x = bytes_of_length (octets w) x

  pub signed_length : (z : ℤ) → length (signed_bytes w z) ≡ octets w
  unfolding signed_bytes
  signed_length z = unsigned_length (of_z w z)

  pub unsigned_bytes_lem : (x : ℕ) → Bytes (unsigned_bytes w x)
  unfolding unsigned_bytes
  unsigned_bytes_lem x = record { at = bytes_of_bytes (octets w) x }

  pub signed_bytes_lem : (z : ℤ) → Bytes (signed_bytes w z)
  unfolding signed_bytes
  signed_bytes_lem z = unsigned_bytes_lem (of_z w z)

  -- what is read where the number lies whole in the bytes, and where it does not, by what a test t says
  pub read_in : (b : List ℕ) (i : ℕ) {t : Bool} → t ≡ leb (i + octets w) (length b) → t ≡ true → unsigned_at w b i ≡ le (octets w) b i
  unfolding unsigned_at
  read_in b i e t = rw (sym e ∙ t)

  pub read_out : (b : List ℕ) (i : ℕ) {t : Bool} → t ≡ leb (i + octets w) (length b) → t ≡ false → unsigned_at w b i ≡ 0
  unfolding unsigned_at
  read_out b i e t = rw (sym e ∙ t)

  -- the same by its place
  pub unsigned_in : (b : List ℕ) (i : ℕ) → i + octets w ≤ length b → unsigned_at w b i ≡ le (octets w) b i
  unsigned_in b i h = read_in b i refl (le-leb _ _ h)

  pub unsigned_out : (b : List ℕ) (i : ℕ) → length b < i + octets w → unsigned_at w b i ≡ 0
  unsigned_out b i h = read_out b i refl (lt-leb _ _ h)

  pub unsigned_below : (b : List ℕ) (i : ℕ) → Bytes b → unsigned_at w b i < 2 ^ bits w
  unfolding unsigned_at
  unsigned_below b i h =
      let l = rw (width w) at (le_below (octets w) b i h) in
      pick_below (leb (i + octets w) (length b)) (le (octets w) b i) 0 (2 ^ bits w) l (omega (arith, l))

  -- a number inside a part is the number of the part
  pub unsigned_inside : (p v q : List ℕ) (k : ℕ) → k + octets w ≤ length v → unsigned_at w (p ++ v ++ q) (length p + k) ≡ unsigned_at w v k
  unsigned_inside p v q k h =
      unsigned_in (p ++ v ++ q) (length p + k) (simp length-append (omega arith))
      ∙ le_same (octets w) (p ++ v ++ q) v (length p + k) k (λ j l.
      get_or-append (p ++ v) q 0 (length p + k + j) (simp length-append (omega arith)) ∙ rw add_assoc (get_or-append-add p v (k + j) 0))
      ∙ sym (unsigned_in v k h)

  pub signed_inside : (p v q : List ℕ) (k : ℕ) → k + octets w ≤ length v → signed_at w (p ++ v ++ q) (length p + k) ≡ signed_at w v k
  unfolding signed_at
  signed_inside p v q k h = ap (to_z w) (unsigned_inside p v q k h)

  -- a number is read from its bytes, wherever they stand
  pub unsigned_of_bytes : (p q : List ℕ) (x : ℕ) → x < 2 ^ bits w → unsigned_at w (p ++ unsigned_bytes w x ++ q) (length p) ≡ x
  unfolding unsigned_bytes
  unsigned_of_bytes p q x h =
      let l = bytes_of_length (octets w) x in
      ap (unsigned_at w (p ++ bytes_of (octets w) x ++ q)) (sym (add-zero (length p)))
      ∙ unsigned_inside p (bytes_of (octets w) x) q 0 (omega (arith, l))
      ∙ unsigned_in (bytes_of (octets w) x) 0 (omega (arith, l))
      ∙ le_bytes_of (octets w) x (rw width h)

  pub signed_of_bytes : (p q : List ℕ) (z : ℤ) → SFits w z → signed_at w (p ++ signed_bytes w z ++ q) (length p) ≡ z
  unfolding signed_at signed_bytes
  signed_of_bytes p q z f = ap (to_z w) (unsigned_of_bytes p q (of_z w z) (of_z_fits w z f).fits) ∙ to_z-of_z w z f

  -- the bytes that a number was read from are its bytes
  pub bytes_of_unsigned : (b : List ℕ) (i : ℕ) → Bytes b → i + octets w ≤ length b → unsigned_bytes w (unsigned_at w b i) ≡ take (octets w) (drop i b)
  unfolding unsigned_bytes
  bytes_of_unsigned b i h l = ap (bytes_of (octets w)) (unsigned_in b i l) ∙ bytes_of_le (octets w) b i h l

  pub bytes_of_signed : (b : List ℕ) (i : ℕ) → Bytes b → i + octets w ≤ length b → signed_bytes w (signed_at w b i) ≡ take (octets w) (drop i b)
  unfolding signed_bytes signed_at
  bytes_of_signed b i h l = ap (unsigned_bytes w) (of_z-to_z w (unsigned_at w b i) (record { fits = unsigned_below b i h })) ∙ bytes_of_unsigned b i h l
