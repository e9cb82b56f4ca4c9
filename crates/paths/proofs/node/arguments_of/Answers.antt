-- `arguments_of` is the mask of the registers that a helper reads: R1 and on, at most four.
use mathlib.Core.Path.{◌≡◌, refl, sym, ap, ◌∙◌}
use Prim.Native.Nat.{ℕ, zero, suc, ◌*◌, ◌-◌, ◌%◌, ◌^◌, ◌≤◌}
use native.Mathlib.Omega.{arith}
use mir.Syntax.{w32}
use mir.ValLaws.{to_z-of_z}
use Rattle.insn.specs.Helper.{helper_of, arguments}
use Rattle.insn.proofs.Helpers.{at_most_four}
use Rattle.paths.specs.Registers.{argument}
use Rattle.paths.specs.Mask.{mask}
use Rattle.paths.proofs.node.arguments_of.Goals as goal
use Rattle.std.specs.Prelude.{Some}

-- R1 to R(n) as the code makes them
record Shifted (n : ℕ) : Type 0 where
  enough : 2 ≤ 2 * 2 ^ n % 65536
  is : 2 * 2 ^ n % 65536 - 2 ≡ mask (argument n) 11

shifted : (n : ℕ) → n ≤ 4 → Shifted n
unfolding mask argument
shifted zero h = record { enough = omega arith; is = refl }
shifted (suc zero) h = record { enough = omega arith; is = refl }
shifted (suc (suc zero)) h = record { enough = omega arith; is = refl }
shifted (suc (suc (suc zero))) h = record { enough = omega arith; is = refl }
shifted (suc (suc (suc (suc zero)))) h = record { enough = omega arith; is = refl }
shifted (suc (suc (suc (suc (suc n))))) h = absurd (omega arith)

pub overflow_shl-result : goal.overflow_shl-result
unfolding arguments
overflow_shl-result c =
    let takes : helper_of c.args.imm ≡ Some c.in-Some.n = sym (ap helper_of (to_z-of_z w32 c.args.imm c.ranges.imm)) ∙ sym c.helper_of.ensures ∙ c.in-Some.is in
    let few : c.in-Some.n ≤ 4 = rw takes at (at_most_four c.args.imm) in
    omega (arith, few)

pub overflow_sub-result : goal.overflow_sub-result
unfolding arguments
overflow_sub-result c =
    let takes : helper_of c.args.imm ≡ Some c.in-Some.n = sym (ap helper_of (to_z-of_z w32 c.args.imm c.ranges.imm)) ∙ sym c.helper_of.ensures ∙ c.in-Some.is in
    let few : c.in-Some.n ≤ 4 = rw takes at (at_most_four c.args.imm) in
    (shifted _ few).enough

pub returns-in-None : goal.returns-in-None
unfolding arguments argument mask
returns-in-None c =
    rw (← (to_z-of_z w32 c.args.imm c.ranges.imm), ← c.helper_of.ensures, c.in-None.is)

pub returns-in-Some : goal.returns-in-Some
unfolding arguments
returns-in-Some c =
    let takes : helper_of c.args.imm ≡ Some c.in-Some.n = sym (ap helper_of (to_z-of_z w32 c.args.imm c.ranges.imm)) ∙ sym c.helper_of.ensures ∙ c.in-Some.is in
    let few : c.in-Some.n ≤ 4 = rw takes at (at_most_four c.args.imm) in
    rw takes (shifted _ few).is
