use mathlib.Core.Path.{refl, sym, ◌∙◌}
use native.Mathlib.Omega.{arith}
use Rattle.std.proofs.Common.{rules}
use Rattle.unitfile.specs.Inner.{on_end}
use Rattle.unitfile.proofs.Passing.{passed, instruction_passed, block_ended, inside_refused}
use Rattle.unitfile.proofs.walk.rest_of_block.Goals as goal

pub loop-kind-init : goal.loop-kind-init
loop-kind-init c = λ found blocks. refl

pub returns-in_err-kind : goal.returns-in_err-kind
unfolding on_end
returns-in_err-kind c = λ found blocks. search (rules, c.loop-kind.invariant found blocks ∙ inside_refused found _ _ _ blocks _ (sym c.check_inside.ensures ∙ c.in_err-kind.was))

pub returns-then-kind-ne-INSTRUCTION : goal.returns-then-kind-ne-INSTRUCTION
unfolding on_end
returns-then-kind-ne-INSTRUCTION c = λ found blocks. c.loop-kind.invariant found blocks ∙ block_ended found _ _ _ blocks _ _ c.if-kind-ne-INSTRUCTION.true (sym c.check_inside.ensures ∙ c.in_ok-kind.was)

pub loop-kind-smaller : goal.loop-kind-smaller
loop-kind-smaller c = let p = passed _ _ _ _ _ _ (sym c.check_inside.ensures ∙ c.in_ok-kind.was) in omega arith

pub loop-kind-preserved : goal.loop-kind-preserved
loop-kind-preserved c = λ found blocks. c.loop-kind.invariant found blocks ∙ instruction_passed found _ _ _ blocks _ _ c.if-kind-ne-INSTRUCTION.false (sym c.check_inside.ensures ∙ c.in_ok-kind.was)
