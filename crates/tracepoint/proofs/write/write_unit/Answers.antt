use mathlib.Core.Path.{◌≡◌, refl, ap, ◌∙◌}
use Prim.Native.Nat.{ℕ, ◌+◌}
use native.Mathlib.Omega.{arith}
use lib.ListN.{length, get_or}
use lib.Seq.{length-sets}
use Rattle.insn.specs.Form.{opcode_of}
use Rattle.record.specs.Frame.{next_at}
use Rattle.unitfile.proofs.Units.{unit_of}
use Rattle.jumps.specs.Landed.{marked}
use Rattle.tracepoint.specs.Lent.{context_in}
use Rattle.passes.proofs.Writing.{start, first_room, ends_room, next, before, inside, room_block, written, passed, done, unit_done}
use Rattle.tracepoint.proofs.write.write_unit.Goals as goal

pub put-requires : goal.put-requires
put-requires c =
    first_room c.args.links.unit.now c.args.links.found (context_in c.args.context) (marked c.args.links.emitted.now) c.args.links.read c.requires.tables c.requires.room

pub loop-k-init : goal.loop-k-init
loop-k-init c =
    let same : length c.put.new.code ≡ length c.args.code.now = ap length c.put.ensures ∙ simp length-sets in
    (start c.args.links.unit.now c.args.links.found (context_in c.args.context) (marked c.args.links.emitted.now) c.args.links.read c.requires.tables c.args.links.endings.now _ _ c.args.links.ends c.requires.lands (rw same c.requires.room), refl, refl)

pub bounds-links-k : goal.bounds-links-k
bounds-links-k c = omega (arith, ends_room c.args.links.unit.now c.args.links.found c.args.links.endings.now c.args.links.read c.args.links.ends)

pub overflow_add-at : goal.overflow_add-at
overflow_add-at c =
    let x = next c.loop-k.invariant.0 c.loop-k-test.true in
    omega (arith, before x.writing, inside x.writing, (unit_of _ _ c.args.links.read).short)

pub put_block-passed-requires : goal.put_block-passed-requires
put_block-passed-requires c =
    let few = (unit_of _ _ c.args.links.read).few_blocks in
    let x = next c.loop-k.invariant.0 c.loop-k-test.true in record { within = (inside x.writing, omega arith); room_at = room_block x.writing; end_value = (written x.writing).reach }

pub loop-k-preserved : goal.loop-k-preserved
unfolding next_at
loop-k-preserved c =
    let l = c.loop-k in
    let x = next l.invariant.0 c.loop-k-test.true in
    (passed x (c.put_block-passed.ensures.puts _ (written x.writing)) c.put_block-passed.ensures.scratch_value (ap (λ (n : ℕ). get_or c.args.links.endings.now l.k 0 + 4 + n) c.get_u16.ensures), omega arith, omega arith)

pub returns : goal.returns
unfolding opcode_of
returns c =
    let shown = unit_done c.args.links.unit.now c.args.links.found (context_in c.args.context) (marked c.args.links.emitted.now) c.args.links.read c.requires.tables c.args.code.now c.args.relocs.now c.put.ensures (done c.loop-k.invariant.0 (omega arith)) in
    record { code_after = shown.0; relocs_after = shown.1 }
