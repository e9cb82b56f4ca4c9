use mathlib.Core.Path.{◌≡◌}
use Prim.Native.Nat.{◌+◌, ◌-◌}
use native.Mathlib.Omega.{arith}
use Rattle.survey.proofs.Tallies.{one_more_lem, no_more}
use Rattle.survey.proofs.occurrences.with_operands.Goals as goal

pub loop-init : goal.loop-init
loop-init c = let z : c.args.count - 0 ≡ c.args.count = omega arith in (omega arith, c.requires.holds, λ r m t. rw z at t)

pub with_operand-counted-requires : goal.with_operand-counted-requires
with_operand-counted-requires c = c.loop.invariant.1

pub overflow_add-i-in-loop : goal.overflow_add-i-in-loop
overflow_add-i-in-loop c = omega arith

pub loop-preserved : goal.loop-preserved
loop-preserved c =
    let l = c.loop in
    let a = c.with_operand-counted.ensures in
    let z : c.args.count - (l.counter + 1) ≡ c.args.count - l.counter - 1 = omega arith in
    (omega arith, a.holds, λ r m t. l.invariant.2 r m (one_more_lem _ _ l.i (c.args.count - l.counter) (omega arith) a (rw z at t)))

pub returns : goal.returns
returns c =
    let l = c.loop in
    l.invariant.2 _ _ (no_more _ _ l.i (c.args.count - l.counter) (omega arith) l.invariant.1)
