-- The bits of a number, lowest first, as numbers below 2, with what `&`, `|` and a remainder do to each.
use mathlib.Core.Path.{◌≡◌, refl, sym, ap, ◌∙◌}
use Prim.Native.Nat.{ℕ, zero, suc, ◌+◌, ◌-◌, ◌*◌, ◌/◌, ◌%◌, ◌^◌, ◌≤◌, ◌<◌, min, max}
use native.Mathlib.Nat.{pow-suc, le_of_suc-le-suc, one-mul}
use native.Mathlib.Omega.{arith}
use lib.Bits.{bit_and, bit_or}
use lib.Pow.{field, mod-mod-pow, shl_exact}
use Rattle.std.proofs.lemmas.Nat.Bits.{bit_at_and, bit_at_or, bit_at_lowest, bit_at-suc, bit_at-zero, bit_at-pow_same, bit_at-pow_other, same_from_bits_below}
use Rattle.wire.specs.Bit.{bit}

pub bit_le : (m r : ℕ) → bit m r ≤ 1
unfolding bit
bit_le m r = omega arith

pub bit_and_lem : (a b r : ℕ) → bit (bit_and a b) r ≡ min (bit a r) (bit b r)
unfolding bit
bit_and_lem = bit_at_and

pub bit_or_lem : (a b r : ℕ) → bit (bit_or a b) r ≡ max (bit a r) (bit b r)
unfolding bit
bit_or_lem = bit_at_or

-- bit r of a number is that of its remainder by a power of 2 above it
pub low_bit : (m r k : ℕ) → r < k → bit (m % 2 ^ k) r ≡ bit m r
unfolding bit
low_bit m r k h =
    let i : ℕ = k - (r + 1) in
    let e : k ≡ i + 1 + r = omega arith in
    ap (λ (x : ℕ). m % 2 ^ x / 2 ^ r % 2) e ∙ ap (λ (x : ℕ). x % 2) (field m (i + 1) r) ∙ mod-mod-pow (m / 2 ^ r) i 1

pub bit_zero : (n : ℕ) → bit n 0 ≡ n % 2
unfolding bit
bit_zero = bit_at_lowest

pub bit_suc : (n r : ℕ) → bit n (suc r) ≡ bit (n / 2) r
unfolding bit
bit_suc = bit_at-suc

-- the complement within k bits
pub bit_not : (k m r : ℕ) → m < 2 ^ k → r < k → bit (2 ^ k - 1 - m) r ≡ 1 - bit m r
bit_not zero m r lm lr = absurd (omega arith)
bit_not (suc k) m zero lm lr = bit_zero (2 ^ suc k - 1 - m) ∙ omega (arith, pow-suc 2 k, bit_zero m)
bit_not (suc k) m (suc r) lm lr =
    bit_suc (2 ^ suc k - 1 - m) r ∙ ap (λ (x : ℕ). bit x r) (omega (arith, pow-suc 2 k)) ∙ bit_not k (m / 2) r (omega (arith, pow-suc 2 k)) (le_of_suc-le-suc lr)
    ∙ ap (λ (x : ℕ). 1 - x) (sym (bit_suc m r))

-- two masks with the same bits are the same
pub bit_ext : (k a b : ℕ) → a < 2 ^ k → b < 2 ^ k → ((r : ℕ) → r < k → bit a r ≡ bit b r) → a ≡ b
unfolding bit
bit_ext = same_from_bits_below

-- 0 has no bit, so a number with one is not 0
pub bit_of_zero : (r : ℕ) → bit 0 r ≡ 0
unfolding bit
bit_of_zero = bit_at-zero

pub nonzero : (n r : ℕ) → bit n r ≡ 1 → n ≡ 0 → ⊥
nonzero n r e z = let h : bit 0 r ≡ 1 = rw z at e in omega (arith, bit_of_zero r)

-- x | 2 ^ k has bit k, and the other bits of x
pub or_pow : (x k : ℕ) → bit (bit_or x (2 ^ k)) k ≡ 1
unfolding bit
or_pow x k = omega (arith, bit_at_or x (2 ^ k) k, bit_at-pow_same k)

pub or_pow_other : (x k r : ℕ) → (r ≡ k → ⊥) → bit (bit_or x (2 ^ k)) r ≡ bit x r
unfolding bit
or_pow_other x k r n = omega (arith, bit_at_or x (2 ^ k) r, bit_at-pow_other k r n)

pub or_keeps : (x y r : ℕ) → bit x r ≡ 1 → bit (bit_or x y) r ≡ 1
or_keeps x y r e = omega (arith, bit_or_lem x y r, bit_le y r)

-- a number whose k bits are not all set has one that is clear
pub clear_bit : (k x : ℕ) → suc x < 2 ^ k → (r : ℕ) × (r < k) × (bit x r ≡ 0)
clear_bit zero x h = absurd (omega arith)
clear_bit (suc k) x h = go (x % 2) refl (λ o. clear_bit k (x / 2) (omega (arith, pow-suc 2 k, o)))
  where
    go : (b : ℕ) → x % 2 ≡ b → (0 < b → (r : ℕ) × (r < k) × (bit (x / 2) r ≡ 0)) → (r : ℕ) × (r < suc k) × (bit x r ≡ 0)
    go zero e later = (0, omega arith, bit_zero x ∙ e)
    go (suc b) e later = let z = later (omega arith) in (suc z.0, omega (arith, z.1), bit_suc x z.0 ∙ z.2)

-- a shift of 1 within a width
pub shl_one : (k w : ℕ) → k < w → 1 * 2 ^ k % 2 ^ w ≡ 2 ^ k
shl_one k w h = shl_exact 1 k w (omega arith) (omega arith) ∙ one-mul (2 ^ k)
