-- An operand that was read lies in the bytes; operands one after the other: a broken one, one more.
use mathlib.Core.Path.{◌≡◌}
use mathlib.Core.List.{List}
use Prim.Native.Nat.{ℕ, zero, suc, ◌+◌, ◌-◌, ◌<◌, ◌≤◌}
use native.Mathlib.Omega.{arith}
use lib.ListN.{length}
use Rattle.std.proofs.lemmas.Bool.Decides.{nat_tests}
use Rattle.ir.specs.declared.Operand.{Operand}
use Rattle.ir.specs.declared.operands.Operands.{Operands}
use Rattle.ir.specs.Operands.{pushed}
use Rattle.operand.specs.Operand.{operand_at, on_operand, operands_at}
use Rattle.std.specs.Prelude.{None, Some}

pub operand_room : (b : List ℕ) (i : ℕ) (o : Operand) → operand_at b i ≡ Some o → i + 9 ≤ length b
unfolding operand_at
operand_room b i o e = grind (arith, nat_tests)

module _ (l : Operands) (b : List ℕ) (i : ℕ) where
  pub one_broken : (k : ℕ) → 0 < k → operand_at b i ≡ None → operands_at l b i k ≡ None
  unfolding operands_at on_operand
  one_broken zero h e = absurd (omega arith)
  one_broken (suc k) h e = rw e

  pub one_more_lem : (k n : ℕ) (o : Operand) → n < k → operand_at b i ≡ Some o → operands_at l b i (k - n) ≡ operands_at (pushed l o) b (i + 9) (k - (n + 1))
  unfolding operands_at on_operand
  one_more_lem k n o h e = let m : k - n ≡ suc (k - (n + 1)) = omega arith in rw (m, e)
