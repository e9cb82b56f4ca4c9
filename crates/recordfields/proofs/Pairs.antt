-- Operands as pairs of tag and value, one after the other: written, and read back.
use mathlib.Core.Path.{◌≡◌, ◌∙◌}
use mathlib.Core.List.{List}
use Prim.Native.Nat.{ℕ, zero, suc, ◌+◌, ◌-◌, ◌<◌}
use native.Mathlib.Omega.{arith}
use native.Mathlib.Numerals.{add-one}
use lib.ListN.{length, get_or, set, length-set}
use lib.Seq.{sets}
use Rattle.ir.specs.Operands.{list_of, first_of, rest_of, pushed}
use Rattle.ir.specs.declared.Operand.{Operand}
use Rattle.ir.specs.declared.operands.Operands.{Operands}
use Rattle.ir.proofs.OperandLaws.{first_is, first_nothing}
use Rattle.operand.specs.Operand.{on_operand}
use Rattle.recordfields.specs.Fields.{tag_of, value_of, operands_numbers}
use Rattle.recordfields.specs.Meant.{operand_from, operands_from}
use Rattle.std.specs.Prelude.{None, Some}

-- ---- written

pub pair_length : (b : List ℕ) (i x j y : ℕ) → length (set (set b i x) j y) ≡ length b
pair_length b i x j y = length-set (set b i x) j y ∙ length-set b i x

-- the first pair is written, the rest are left
pub pair_step : (l : Operands) (o : Operand) (b : List ℕ) (i : ℕ) → first_of l ≡ Some o → sets (set (set b i (tag_of o)) (i + 1) (value_of o)) (i + 2) (operands_numbers (list_of (rest_of l))) ≡ sets b i (operands_numbers (list_of l))
unfolding operands_numbers
pair_step l o b i f =
    let two : i + 2 ≡ suc (suc i) = omega arith in
    rw (first_is l o f, add-one, two)

pub pair_end : (l : Operands) (b : List ℕ) (i : ℕ) → first_of l ≡ None → b ≡ sets b i (operands_numbers (list_of l))
unfolding operands_numbers
pair_end l b i f = rw (first_nothing l f)

-- ---- read

module _ (l : Operands) (fs : List ℕ) (i : ℕ) where
  pub one_broken : (k : ℕ) → 0 < k → operand_from (get_or fs i 0) (get_or fs (i + 1) 0) ≡ None → operands_from l fs i k ≡ None
  unfolding operands_from on_operand
  one_broken zero h e = absurd (omega arith)
  one_broken (suc k) h e = rw e

  pub one_more_lem : (k n : ℕ) (o : Operand) → n < k → operand_from (get_or fs i 0) (get_or fs (i + 1) 0) ≡ Some o → operands_from l fs i (k - n) ≡ operands_from (pushed l o) fs (i + 2) (k - (n + 1))
  unfolding operands_from on_operand
  one_more_lem k n o h e = let m : k - n ≡ suc (k - (n + 1)) = omega arith in rw (m, e)
