-- Lowering looks at how many operands a payload has, and at the first three.
use mathlib.Core.Path.{◌≡◌, refl, sym, ap, ap₂}
use mathlib.Core.List.{List}
use Prim.Native.Nat.{ℕ, zero, suc, ◌+◌, ◌<◌, ◌≤◌}
use native.Mathlib.Omega.{arith}
use lib.ListN.{length}
use Rattle.ir.specs.declared.Operand.{Operand}
use Rattle.operand.specs.Operand.{operand_in, operands_in}
use Rattle.operand.proofs.OperandIn.{operands_count}
use Rattle.lower.specs.Op.{Lowered, refused}
use Rattle.lower.specs.Operand.{next}
use Rattle.lower.specs.Instruction.{on_first, on_two, on_three, on_none, after_first, after_two}
use Rattle.lower.specs.declared.Reason.TheVariants as Re

-- the n operands from i on
module _ (p : List ℕ) (i : ℕ) where
  counted : (n : ℕ) → refused (Re.Count n) ≡ refused (Re.Count (length (operands_in p i n)))
  counted n = ap (λ (k : ℕ). refused (Re.Count k)) (sym (operands_count p i n))

  -- ---- what they become, x y z: the first three

  pub first_is : (n : ℕ) (f : Operand → Lowered) {x : Operand} → x ≡ operand_in p i → (n ≡ 0 → ⊥) → f x ≡ on_first (operands_in p i n) f
  unfolding on_first operands_in
  first_is zero f e h = absurd (h refl)
  first_is (suc n) f e h = ap f e

  pub no_first : (n : ℕ) (f : Operand → Lowered) → n ≡ 0 → refused (Re.Count 0) ≡ on_first (operands_in p i n) f
  unfolding on_first operands_in
  no_first zero f h = refl
  no_first (suc n) f h = absurd (omega arith)

  pub two_are : (n : ℕ) (f : Operand → Operand → Lowered) {x y : Operand} → x ≡ operand_in p i → y ≡ operand_in p (i + 9) → n ≡ 2
      → f x y ≡ on_two (operands_in p i n) f
  unfolding on_two operands_in
  two_are zero f d e h = absurd (omega arith)
  two_are (suc zero) f d e h = absurd (omega arith)
  two_are (suc (suc zero)) f d e h = ap₂ f d e
  two_are (suc (suc (suc n))) f d e h = absurd (omega arith)

  pub not_two : (n : ℕ) (f : Operand → Operand → Lowered) → (n ≡ 2 → ⊥) → refused (Re.Count n) ≡ on_two (operands_in p i n) f
  unfolding on_two operands_in
  not_two zero f h = refl
  not_two (suc zero) f h = refl
  not_two (suc (suc zero)) f h = absurd (h refl)
  not_two (suc (suc (suc n))) f h = counted (suc (suc (suc n)))

  pub three_are : (n : ℕ) (f : Operand → Operand → Operand → Lowered) {x y z : Operand} → x ≡ operand_in p i → y ≡ operand_in p (i + 9) → z ≡ operand_in p (i + 9 + 9) → n ≡ 3
      → f x y z ≡ on_three (operands_in p i n) f
  unfolding on_three operands_in
  three_are zero f c d e h = absurd (omega arith)
  three_are (suc zero) f c d e h = absurd (omega arith)
  three_are (suc (suc zero)) f c d e h = absurd (omega arith)
  three_are (suc (suc (suc zero))) f c d e h = rw (c, d, e)
  three_are (suc (suc (suc (suc n)))) f c d e h = absurd (omega arith)

  pub not_three : (n : ℕ) (f : Operand → Operand → Operand → Lowered) → (n ≡ 3 → ⊥) → refused (Re.Count n) ≡ on_three (operands_in p i n) f
  unfolding on_three operands_in
  not_three zero f h = refl
  not_three (suc zero) f h = refl
  not_three (suc (suc zero)) f h = refl
  not_three (suc (suc (suc zero))) f h = absurd (h refl)
  not_three (suc (suc (suc (suc n)))) f h = counted (suc (suc (suc (suc n))))

  pub none_are : (n : ℕ) (x : Lowered) → n ≡ 0 → x ≡ on_none (operands_in p i n) x
  unfolding on_none operands_in
  none_are zero x h = refl
  none_are (suc n) x h = absurd (omega arith)

  pub some_are : (n : ℕ) (x : Lowered) → (n ≡ 0 → ⊥) → refused (Re.Count n) ≡ on_none (operands_in p i n) x
  unfolding on_none operands_in
  some_are zero x h = absurd (h refl)
  some_are (suc n) x h = counted (suc n)

  -- ---- the scratch position after them

  module _ (j : ℕ) where
    pub first_stays : (n : ℕ) → n ≡ 0 → j ≡ after_first j (operands_in p i n)
    unfolding after_first operands_in
    first_stays zero h = refl
    first_stays (suc n) h = absurd (omega arith)

    pub first_moves : (n : ℕ) → (n ≡ 0 → ⊥) → next j (operand_in p i) ≡ after_first j (operands_in p i n)
    unfolding after_first operands_in
    first_moves zero h = absurd (h refl)
    first_moves (suc n) h = refl

    pub no_second : (n : ℕ) → n < 2 → after_first j (operands_in p i n) ≡ after_two j (operands_in p i n)
    unfolding after_first after_two operands_in
    no_second zero h = refl
    no_second (suc zero) h = refl
    no_second (suc (suc n)) h = absurd (omega arith)

    pub second_moves : (n : ℕ) → 2 ≤ n → next (after_first j (operands_in p i n)) (operand_in p (i + 9)) ≡ after_two j (operands_in p i n)
    unfolding after_first after_two operands_in
    second_moves zero h = absurd (omega arith)
    second_moves (suc zero) h = absurd (omega arith)
    second_moves (suc (suc n)) h = refl
