-- `put_block` puts an emitted block's instructions and then its terminator, whose targets the tables tell.
use mathlib.Core.Path.{sym, ap, ◌∙◌}
use native.Mathlib.Omega.{arith}
use borrow.Author.Tests.{eq-eqb, ne_eqb}
use Rattle.std.specs.Prelude.{Err}
use Rattle.unitfile.proofs.Units.{unit_of}
use Rattle.survey.proofs.Bounds.{blocks_count}
use Rattle.lower.specs.Held.{ending_ops}
use Rattle.layout.specs.Layout.{at, ops}
use Rattle.jumps.specs.Landed.{marked}
use Rattle.tracepoint.specs.Lent.{context_in}
use Rattle.passes.specs.Put.{slot_to}
use Rattle.passes.proofs.Put.{puts_none}
use Rattle.passes.proofs.Writing.{room_body, ring_body, room_end, reach_end, puts_block, puts_silent, ring_silent}
use Rattle.tracepoint.proofs.write.put_block.Goals as goal

pub put_instructions-passed-requires : goal.put_instructions-passed-requires
unfolding marked
put_instructions-passed-requires c = record { within = (c.requires.within.0, (unit_of _ _ c.args.links.read).short); room_at = room_body _ _ _ _ _ (eq-eqb _ 1 c.if-links-k-eq1.true) c.requires.room_at }

pub put_ending-front-requires : goal.put_ending-front-requires
unfolding marked slot_to
put_ending-front-requires c =
    let on = eq-eqb _ 1 c.if-links-k-eq1.true in
    let put = c.put_instructions-passed.ensures.puts in
    let read = c.terminator_in-t.ensures in
    let lowers = sym (ap ending_ops c.in-Ok.is) ∙ c.lower_terminator.ensures in
    let ctx = context_in c.args.context in
    let room = room_end ctx c.args.links.unit.now c.args.passed.scratch c.args.first c.args.end on put _ read lowers c.requires.room_at in
    record {
      t_value = reach_end ctx c.args.links.unit.now c.args.passed.scratch c.args.first c.args.end on put _ read lowers c.first_slot-a.ensures c.first_slot-b.ensures c.requires.end_value;
      t_bound = (omega (arith, room.few), omega (arith, room.code));
    }

pub returns-in-Ok : goal.returns-in-Ok
unfolding marked slot_to
returns-in-Ok c =
    let on = eq-eqb _ 1 c.if-links-k-eq1.true in
    let lowers = sym (ap ending_ops c.in-Ok.is) ∙ c.lower_terminator.ensures in
    let ctx = context_in c.args.context in
    record {
      puts = λ xs w. puts_block ctx c.args.links.unit.now c.args.passed.scratch c.args.first c.args.end on c.put_instructions-passed.ensures.puts _ c.terminator_in-t.ensures lowers c.first_slot-a.ensures c.first_slot-b.ensures xs w (c.put_ending-front.ensures _);
      scratch_value = ring_body ctx c.args.links.unit.now c.args.passed.scratch c.args.first c.args.end on c.put_instructions-passed.ensures.scratch_value;
    }

pub returns-in-Err : goal.returns-in-Err
unfolding marked slot_to ending_ops at ops
returns-in-Err c =
    let on = eq-eqb _ 1 c.if-links-k-eq1.true in
    let lowers = sym (ap ending_ops c.in-Err.is) ∙ c.lower_terminator.ensures in
    let ctx = context_in c.args.context in
    record {
      puts = λ xs w. puts_block ctx c.args.links.unit.now c.args.passed.scratch c.args.first c.args.end on c.put_instructions-passed.ensures.puts (Err c.in-Err.field-0) c.terminator_in-t.ensures lowers c.first_slot-a.ensures c.first_slot-b.ensures xs w (puts_none _ _ _ _ _ _);
      scratch_value = ring_body ctx c.args.links.unit.now c.args.passed.scratch c.args.first c.args.end on c.put_instructions-passed.ensures.scratch_value;
    }

pub returns : goal.returns
unfolding marked
returns c =
    let off = ne_eqb _ 1 c.if-links-k-eq1.false in record { puts = λ xs w. puts_silent _ _ _ _ _ off xs _ _ _ _; scratch_value = ring_silent (context_in c.args.context) _ _ _ _ off }

pub bounds-links-k : goal.bounds-links-k
bounds-links-k c = omega (arith, c.requires.within.1, blocks_count c.args.links.unit.now c.args.links.found c.args.links.read, c.args.links.linked.emitted_size)

pub bounds-links-k-then-links-k-eq1 : goal.bounds-links-k-then-links-k-eq1
bounds-links-k-then-links-k-eq1 c = omega (arith, c.requires.within.1, blocks_count c.args.links.unit.now c.args.links.found c.args.links.read, c.args.links.linked.numbers_size)

pub bounds-links-k-then-links-k-eq1-2 : goal.bounds-links-k-then-links-k-eq1-2
bounds-links-k-then-links-k-eq1-2 c = omega (arith, c.requires.within.1, blocks_count c.args.links.unit.now c.args.links.found c.args.links.read, c.args.links.linked.numbers_size)
