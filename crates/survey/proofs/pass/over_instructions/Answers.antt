use mathlib.Core.Path.{sym, ap, ◌∙◌}
use Prim.Native.Nat.{ℕ, ◌+◌, ◌-◌}
use native.Mathlib.Omega.{arith}
use Rattle.record.specs.Frame.{next_at}
use Rattle.survey.proofs.Through.{kind_inside, at_first, on_instruction, at_end}
use Rattle.survey.proofs.pass.over_instructions.Goals as goal

pub loop-variables-init : goal.loop-variables-init
loop-variables-init c = (at_first c.requires.holds, omega arith)

pub overflow_add-at : goal.overflow_add-at
overflow_add-at c = omega arith

pub with_instruction-counted-requires : goal.with_instruction-counted-requires
with_instruction-counted-requires c = record { holds = c.loop-variables.invariant.0.holds; place_bound = omega arith }

pub overflow_add-at-in-loop-variables : goal.overflow_add-at-in-loop-variables
overflow_add-at-in-loop-variables c = omega arith

pub overflow_add-at-in-loop-variables-2 : goal.overflow_add-at-in-loop-variables-2
overflow_add-at-in-loop-variables-2 c = omega arith

pub loop-variables-smaller : goal.loop-variables-smaller
loop-variables-smaller c =
    let i = kind_inside _ _ (sym c.get_u16.ensures ∙ c.loop-variables-test.true) in
    omega (arith, i)

pub loop-variables-preserved : goal.loop-variables-preserved
unfolding next_at
loop-variables-preserved c =
    let four = sym c.get_u16.ensures ∙ c.loop-variables-test.true in
    let i = kind_inside _ _ four in
    (on_instruction c.loop-variables.invariant.0 four (ap (λ (n : ℕ). c.loop-variables.at + 4 + n) c.get_u16-in-loop-variables.ensures) c.with_instruction-counted.ensures, omega (arith, i))

pub returns : goal.returns
returns c = at_end c.loop-variables.invariant.0 (λ e. c.loop-variables-test.false (c.get_u16.ensures ∙ e))
