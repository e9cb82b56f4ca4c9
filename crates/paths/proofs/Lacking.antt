-- Registers that are read and not readable, as a mask, and the lowest of them.
use mathlib.Core.Path.{◌≡◌, sym, ap, ◌∙◌}
use mathlib.Core.Bool.{true}
use mathlib.Core.Logic.{◌↔◌}
use mathlib.Core.List.{List}
use Prim.Native.Nat.{ℕ, ◌-◌, ◌<◌, min}
use native.Mathlib.Omega.{arith}
use lib.Bits.{and_le_l}
use lib.Count.{count_trailing_zeros}
use Rattle.wire.specs.Bit.{bit}
use Rattle.worklist.specs.Words.{Lowest}
use Rattle.wire.proofs.Bits.{bit_le, bit_and_lem, bit_not, bit_of_zero}
use Rattle.worklist.proofs.LowestBit.{lowest, lowest_below}
use Rattle.shape.specs.Code.{slots, at, form_at}
use Rattle.paths.specs.Registers.{reads}
use Rattle.paths.specs.Way.{Always, Lacking}
use Rattle.paths.specs.Readable.{Readable}
use Rattle.paths.specs.Mask.{read_mask, lacking}
use Rattle.paths.proofs.Masks.{num, num_true, mask_lt, mask_bit}

-- ---- the mask of what is read

read_lt : (b : List ℕ) (s : ℕ) → read_mask b s < 2048
unfolding read_mask
read_lt b s = mask_lt (reads (form_at b s) (at b s)) 11

read_bit : (b : List ℕ) (s r : ℕ) → r < 11 → bit (read_mask b s) r ≡ num (reads (form_at b s) (at b s) r)
unfolding read_mask
read_bit b s r l = mask_bit (reads (form_at b s) (at b s)) 11 r l

read_is : (b : List ℕ) (s r : ℕ) → r < 11 → (bit (read_mask b s) r ≡ 1) ↔ (reads (form_at b s) (at b s) r ≡ true)
read_is b s r l = (λ e. num_true _ (sym (read_bit b s r l) ∙ e), λ e. read_bit b s r l ∙ ap num e)

-- ---- what is read at slot s and not in its entry x

lacking_bit : (need x r : ℕ) → x < 2048 → r < 11 → bit (lacking need x) r ≡ min (bit need r) (1 - bit x r)
lacking_bit need x r l lr = bit_and_lem need (2047 - x) r ∙ ap (λ (y : ℕ). min (bit need r) y) (bit_not 11 x r l lr)

module _ (b : List ℕ) (s x : ℕ) (h : s < slots b) (X : Readable b s x) where
  -- the lowest bit is that register
  lacking_at : (r : ℕ) → Lowest (lacking (read_mask b s) x) r → Lacking b s r
  lacking_at r L =
      let need : ℕ = read_mask b s in
      let lr : r < 11 = lowest_below 11 (lacking need x) r (omega (arith, and_le_l need (2047 - x), read_lt b s)) L in
      let at-r = lacking_bit need x r X.small lr in
      record {
        inside = h;
        read = (read_is b s r lr).0 (omega (arith, L.set, at-r, bit_le need r));
        lacks = X.clear r lr (omega (arith, L.set, at-r, bit_le x r));
        lowest = λ q lq n. X.set q (omega arith) (omega (arith, L.clear q lq, lacking_bit need x q X.small (omega arith), bit_le x q, (read_is b s q (omega arith)).1 n));
      }

  -- which `u16::trailing_zeros` finds, where there is a bit
  pub lacking_first : 0 < lacking (read_mask b s) x → Lacking b s (count_trailing_zeros 16 (lacking (read_mask b s) x))
  lacking_first n = lacking_at _ (lowest 16 (lacking (read_mask b s) x) n (omega (arith, and_le_l (read_mask b s) (2047 - x), read_lt b s)))

  -- no bit: each register that is read is readable on every path
  pub all_read : lacking (read_mask b s) x ≡ 0 → (r : ℕ) → r < 11 → reads (form_at b s) (at b s) r ≡ true → Always b s r
  all_read z r l n =
      X.set r l (omega (arith, ap (λ (y : ℕ). bit y r) z, bit_of_zero r, lacking_bit (read_mask b s) x r X.small l, bit_le x r, (read_is b s r l).1 n))
