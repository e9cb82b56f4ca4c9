-- Bytes that are operands', tested and taken: a test says what reading says, and what is taken is what is read.
use mathlib.Core.Path.{◌≡◌, refl, sym, ap, ◌∙◌}
use mathlib.Core.Bool.{true, false}
use mathlib.Core.List.{List, [], ◌∷◌, ◌++◌, append-nil, append_assoc}
use Prim.Native.Nat.{ℕ, zero, suc, ◌+◌, ◌-◌, ◌<◌, ◌≤◌}
use native.Mathlib.Omega.{arith}
use lib.ListN.{length, length-append, get_or-eq_default}
use mir.Syntax.{w32}
use Rattle.std.proofs.lemmas.Bool.Decides.{nat_tests}
use Rattle.wire.proofs.Le.{unsigned_out}
use Rattle.ir.specs.Operands.{list_of, pushed}
use Rattle.ir.specs.declared.Operand.{Operand}
use Rattle.ir.specs.declared.Operand.TheVariants.{Var}
use Rattle.ir.specs.declared.operands.Operands.{Operands}
use Rattle.ir.specs.declared.operands.Operands.TheVariants.{Zero}
use Rattle.ir.proofs.OperandLaws.{pushed_last}
use Rattle.operand.specs.Operand.{operand_at, on_operand, operands_at, is_operand, are_operands, operand_in, operands_in}
use Rattle.std.specs.Prelude.{None, Option, Some}

-- ---- tested

pub whole_operand : (b : List ℕ) (i : ℕ) → is_operand (operand_at b i) ≡ true → i + 9 ≤ length b
unfolding is_operand operand_at
whole_operand b i e = grind (arith, nat_tests)

module _ (b : List ℕ) where
  -- whether there are k more is one question after any list
  any_by : (k : ℕ) → ((l m : Operands) (i : ℕ) → are_operands (operands_at l b i k) ≡ are_operands (operands_at m b i k)) → (l m : Operands) (i : ℕ) (x : Option Operand) → are_operands (on_operand x (λ o. operands_at (pushed l o) b (i + 9) k)) ≡ are_operands (on_operand x (λ o. operands_at (pushed m o) b (i + 9) k))
  unfolding on_operand
  any_by k ih l m i (Some o) = ih (pushed l o) (pushed m o) (i + 9)
  any_by k ih l m i None = refl

  any_list : (k : ℕ) (l m : Operands) (i : ℕ) → are_operands (operands_at l b i k) ≡ are_operands (operands_at m b i k)
  unfolding operands_at are_operands
  any_list zero l m i = refl
  any_list (suc k) l m i = any_by k (any_list k) l m i (operand_at b i)

  module _ (i : ℕ) where
    more_by : (k : ℕ) (x : Option Operand) → is_operand x ≡ true → are_operands (on_operand x (λ o. operands_at (pushed Zero o) b (i + 9) k)) ≡ are_operands (operands_at Zero b (i + 9) k)
    unfolding on_operand is_operand
    more_by k (Some o) e = any_list k (pushed Zero o) Zero (i + 9)
    more_by k None e = let z : ◌≡◌ {A = ℕ} 0 1 = cc in absurd (omega arith)

    pub are_more : (k n : ℕ) → n < k → is_operand (operand_at b i) ≡ true → are_operands (operands_at Zero b i (k - n)) ≡ are_operands (operands_at Zero b (i + 9) (k - (n + 1)))
    unfolding operands_at
    are_more k n h e = let m : k - n ≡ suc (k - (n + 1)) = omega arith in rw m (more_by (k - (n + 1)) (operand_at b i) e)

    broken_by : (k : ℕ) (x : Option Operand) → is_operand x ≡ false → are_operands (on_operand x (λ o. operands_at (pushed Zero o) b (i + 9) k)) ≡ false
    unfolding on_operand is_operand are_operands
    broken_by k (Some o) e = let z : ◌≡◌ {A = ℕ} 0 1 = cc in absurd (omega arith)
    broken_by k None e = refl

    pub are_broken : (k : ℕ) → 0 < k → is_operand (operand_at b i) ≡ false → are_operands (operands_at Zero b i k) ≡ false
    unfolding operands_at
    are_broken zero h e = absurd (omega arith)
    are_broken (suc k) h e = broken_by k (operand_at b i) e

-- ---- taken

pub operand_out : (b : List ℕ) (i : ℕ) → length b ≤ i → operand_in b i ≡ Var 0
unfolding operand_in
operand_out b i h = rw (get_or-eq_default b 0 {n = i} h, unsigned_out w32 b (i + 1) (omega arith)) refl

pub operand_read : (b : List ℕ) (i : ℕ) (o : Operand) → operand_at b i ≡ Some o → operand_in b i ≡ o
unfolding operand_at operand_in
operand_read b i o e = grind (arith, nat_tests)

module _ (b : List ℕ) (m : Operands) where
  abbrev Reads : ℕ → Type 0
  Reads k = (l : Operands) (i : ℕ) → length (list_of l) + k ≤ 8 → operands_at l b i k ≡ Some m → list_of m ≡ list_of l ++ operands_in b i k

  reads_by : (k : ℕ) → Reads k → (l : Operands) (i : ℕ) → length (list_of l) + suc k ≤ 8 → (x : Option Operand) → operand_at b i ≡ x → on_operand x (λ o. operands_at (pushed l o) b (i + 9) k) ≡ Some m → list_of m ≡ list_of l ++ (operand_in b i ∷ operands_in b (i + 9) k)
  unfolding on_operand
  reads_by k ih l i h (Some o) p e =
      let last = pushed_last l o (omega arith) in
      let count : length (list_of (pushed l o)) ≡ length (list_of l) + 1 = ap length last ∙ length-append (list_of l) (o ∷ []) in
      ih (pushed l o) (i + 9) (omega (arith, count)) e
      ∙ ap (λ (x : List Operand). x ++ operands_in b (i + 9) k) last
      ∙ append_assoc (list_of l) (o ∷ []) (operands_in b (i + 9) k)
      ∙ ap (λ (x : Operand). list_of l ++ (x ∷ operands_in b (i + 9) k)) (sym (operand_read b i o p))
  reads_by k ih l i h None p e = let z : ◌≡◌ {A = ℕ} 0 1 = cc in absurd (omega arith)

  reads : (k : ℕ) → Reads k
  unfolding operands_at operands_in
  reads zero l i h e = let s : l ≡ m = cc in ap list_of (sym s) ∙ sym (append-nil (list_of l))
  reads (suc k) l i h e = reads_by k (reads k) l i h (operand_at b i) refl e

-- the operands that are read are those that are taken
pub operands_read : (b : List ℕ) (i k : ℕ) (l : Operands) → k ≤ 8 → operands_at Zero b i k ≡ Some l → list_of l ≡ operands_in b i k
unfolding list_of
operands_read b i k l h e = reads b l k Zero i (omega (arith, h)) e

pub operands_count : (b : List ℕ) (i k : ℕ) → length (operands_in b i k) ≡ k
unfolding operands_in
operands_count b i zero = refl
operands_count b i (suc k) = ap suc (operands_count b (i + 9) k)
