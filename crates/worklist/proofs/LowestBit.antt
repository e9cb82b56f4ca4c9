-- The lowest set bit of a number, by `trailing_zeros`: which it is, and the number without it.
use mathlib.Core.Path.{◌≡◌, refl, sym, ap, ◌∙◌, subst}
use Prim.Native.Nat.{ℕ, zero, suc, ◌-◌, ◌/◌, ◌%◌, ◌^◌, ◌<◌}
use native.Mathlib.Nat.{pow-suc, le_of_suc-le-suc}
use native.Mathlib.Omega.{arith}
use native.Mathlib.Decide.{dec_lt}
use lib.Count.{count_trailing_zeros, under}
use lib.Pow.{pow_mono}
use Rattle.wire.specs.Bit.{bit}
use Rattle.wire.proofs.Bits.{bit_zero, bit_suc}
use Rattle.worklist.specs.Words.{Lowest}
use Rattle.worklist.specs.Set.{lowest_bit}

pub lowest : (k n : ℕ) → 0 < n → n < 2 ^ k → Lowest n (count_trailing_zeros k n)
unfolding count_trailing_zeros
lowest zero n p l = absurd (omega arith)
lowest (suc k) n p l = go (n % 2) refl (λ h1 h2. lowest k (n / 2) h1 h2)
  where
    half : n / 2 < 2 ^ k
    half = omega (arith, pow-suc 2 k)

    odd : n % 2 ≡ 1 → Lowest n 0
    odd e =
        record {
          set = bit_zero n ∙ e;
          clear = λ r h. absurd (omega arith);
          has = omega arith;
          rest = λ r ne. rest r ne;
        }
      where
        rest : (r : ℕ) → (r ≡ 0 → ⊥) → bit (n - 1) r ≡ bit n r
        rest zero ne = absurd (ne refl)
        rest (suc r) ne = bit_suc (n - 1) r ∙ ap (λ (x : ℕ). bit x r) (omega arith) ∙ sym (bit_suc n r)

    even : (z : ℕ) → n % 2 ≡ 0 → Lowest (n / 2) z → Lowest n (suc z)
    even z e L =
        record {
          set = bit_suc n z ∙ L.set;
          clear = λ r h. low r h;
          has = omega (arith, pow-suc 2 z, L.has);
          rest = λ r ne. rest r ne;
        }
      where
        low : (r : ℕ) → r < suc z → bit n r ≡ 0
        low zero h = bit_zero n ∙ e
        low (suc r) h = bit_suc n r ∙ L.clear r (le_of_suc-le-suc h)

        rest : (r : ℕ) → (r ≡ suc z → ⊥) → bit (n - 2 ^ suc z) r ≡ bit n r
        rest zero ne = bit_zero (n - 2 ^ suc z) ∙ omega (arith, pow-suc 2 z, L.has) ∙ sym (bit_zero n)
        rest (suc r) ne =
            bit_suc (n - 2 ^ suc z) r ∙ ap (λ (x : ℕ). bit x r) (omega (arith, pow-suc 2 z, L.has)) ∙ L.rest r (λ q. ne (ap suc q)) ∙ sym (bit_suc n r)

    go : (b : ℕ) → n % 2 ≡ b → (0 < n / 2 → n / 2 < 2 ^ k → Lowest (n / 2) (count_trailing_zeros k (n / 2))) → Lowest n (under (n % 2) (count_trailing_zeros k (n / 2)))
    go zero e ih = subst (λ (b : ℕ). Lowest n (under b (count_trailing_zeros k (n / 2)))) (sym e) (even (count_trailing_zeros k (n / 2)) e (ih (omega arith) half))
    go (suc b) e ih = subst (λ (b : ℕ). Lowest n (under b (count_trailing_zeros k (n / 2)))) (sym e) (odd (omega arith))

below_pow : (n : ℕ) → n < 2 ^ n
below_pow zero = omega arith
below_pow (suc n) = omega (arith, pow-suc 2 n, below_pow n)

pub lowest_bit_lem : (n : ℕ) → 0 < n → Lowest n (lowest_bit n)
unfolding lowest_bit
lowest_bit_lem n p = lowest n n p (below_pow n)

-- a number has one lowest set bit
one_lowest : (n y z : ℕ) → Lowest n y → Lowest n z → y ≡ z
one_lowest n y z Y Z = go (dec_lt y z) (dec_lt z y)
  where
    go : Dec (y < z) → Dec (z < y) → y ≡ z
    go (yes h) _ = absurd (omega (arith, Y.set, Z.clear y h))
    go (no _) (yes h) = absurd (omega (arith, Z.set, Y.clear z h))
    go (no h) (no g) = omega arith

-- which the zeros within any width that holds the number tell
pub zeros_lowest : (k n : ℕ) → 0 < n → n < 2 ^ k → count_trailing_zeros k n ≡ lowest_bit n
zeros_lowest k n p l = one_lowest n (count_trailing_zeros k n) (lowest_bit n) (lowest k n p l) (lowest_bit_lem n p)

-- the lowest set bit of a number below 2 ^ k is below k
pub lowest_below : (k n z : ℕ) → n < 2 ^ k → Lowest n z → z < k
lowest_below k n z l L = go (dec_lt z k)
  where
    go : Dec (z < k) → z < k
    go (yes h) = h
    go (no h) = absurd (omega (arith, pow_mono {i = k} {j = z} (omega arith), L.has))
