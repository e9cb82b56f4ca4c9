use mathlib.Core.Path.{refl}
use native.Mathlib.Omega.{arith}
use Rattle.record.specs.Frame.{next_at}
use Rattle.unitfile.proofs.Units.{unit_of}
use Rattle.survey.proofs.Bounds.{blocks_count}
use Rattle.jumps.specs.Landed.{marked}
use Rattle.passes.proofs.Celled.{celled}
use Rattle.passes.proofs.Measuring.{endings_inside, start, some_block, inside, fits, on_block, on_refusal, at_end}
use Rattle.tracepoint.proofs.measure.measure.Goals as goal

pub loop-k-init : goal.loop-k-init
loop-k-init c =
    start c.args.links.unit.now c.args.links.found _ _ _ _ c.args.links.read c.args.links.ends (celled _ _ _ c.requires.collects)

pub bounds-links-k : goal.bounds-links-k
bounds-links-k c =
    omega (arith, endings_inside _ _ c.args.links.ends, blocks_count _ _ c.args.links.read)

pub bounds-links-k-in-loop-k : goal.bounds-links-k-in-loop-k
bounds-links-k-in-loop-k c = omega (arith, blocks_count c.args.links.unit.now c.args.links.found c.args.links.read, c.args.links.linked.emitted_size)

pub size_of_block-requires : goal.size_of_block-requires
size_of_block-requires c = record { some_block = some_block c.loop-k.invariant c.loop-k-test.true; short = (unit_of _ _ c.args.links.read).short }

pub overflow_add-slots : goal.overflow_add-slots
unfolding marked
overflow_add-slots c =
    let l = c.loop-k in
    let h = c.loop-k-test.true in
    let o = fits l.invariant h c.size_of_block.ensures c.in-Ok.is in
    omega (arith, o.0, o.1, (inside l.invariant h).1, (unit_of _ _ c.args.links.read).short)

pub overflow_add-relocs : goal.overflow_add-relocs
unfolding marked
overflow_add-relocs c =
    let l = c.loop-k in
    let h = c.loop-k-test.true in
    let o = fits l.invariant h c.size_of_block.ensures c.in-Ok.is in
    omega (arith, o.0, o.1, (inside l.invariant h).1, (unit_of _ _ c.args.links.read).short)

pub returns-in-Err : goal.returns-in-Err
unfolding marked
returns-in-Err c = on_refusal c.loop-k.invariant c.loop-k-test.true c.size_of_block.ensures c.in-Err.is

pub loop-k-preserved : goal.loop-k-preserved
unfolding next_at marked
loop-k-preserved c =
    rw c.get_u16.ensures (on_block c.loop-k.invariant c.loop-k-test.true c.size_of_block.ensures c.in-Ok.is)

pub returns : goal.returns
returns c = at_end c.loop-k.invariant _ refl (omega arith) (unit_of _ _ c.args.links.read).short
