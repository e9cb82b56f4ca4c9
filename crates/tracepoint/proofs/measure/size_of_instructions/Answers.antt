use native.Mathlib.Omega.{arith}
use Rattle.record.specs.Frame.{next_at}
use Rattle.passes.proofs.Payload.{payload_whole}
use Rattle.passes.proofs.Sizing.{start, inside, few, on_instruction, on_refusal, at_end}
use Rattle.tracepoint.proofs.measure.size_of_instructions.Goals as goal

pub loop-at-init : goal.loop-at-init
loop-at-init c = start c.requires.row

pub overflow_add-slots : goal.overflow_add-slots
overflow_add-slots c =
    let l = c.loop-at in
    let h = c.loop-at-test.true in
    let o = few l.invariant h (rw (c.size_instruction.ensures, c.condition_of-condition.ensures, payload_whole _ _) at c.size_of.ensures) c.in-Ok.is in
    omega (arith, o.0, o.1, l.invariant.slots, l.invariant.relocs, inside l.invariant h, c.requires.within.1)

pub overflow_add-relocs : goal.overflow_add-relocs
overflow_add-relocs c =
    let l = c.loop-at in
    let h = c.loop-at-test.true in
    let o = few l.invariant h (rw (c.size_instruction.ensures, c.condition_of-condition.ensures, payload_whole _ _) at c.size_of.ensures) c.in-Ok.is in
    omega (arith, o.0, o.1, l.invariant.slots, l.invariant.relocs, inside l.invariant h, c.requires.within.1)

pub returns-in-Err : goal.returns-in-Err
returns-in-Err c =
    on_refusal c.loop-at.invariant c.loop-at-test.true (rw (c.size_instruction.ensures, c.condition_of-condition.ensures, payload_whole _ _) at c.size_of.ensures) c.in-Err.is

pub loop-at-preserved : goal.loop-at-preserved
unfolding next_at
loop-at-preserved c =
    rw c.get_u16.ensures
    (on_instruction c.loop-at.invariant c.loop-at-test.true (rw (c.size_instruction.ensures, c.condition_of-condition.ensures, payload_whole _ _) at c.size_of.ensures) c.in-Ok.is)

pub returns : goal.returns
returns c = at_end c.loop-at.invariant c.loop-at-test.false
