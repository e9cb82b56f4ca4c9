-- Store: its size after its operands.
use mathlib.Core.Path.{refl, sym, ap, ◌∙◌}
use Rattle.insn.specs.Rfc.{STX}
use Rattle.insn.specs.Form.{mem_code}
use Rattle.lower.specs.Instruction.{opcode}
use Rattle.lower.proofs.Exits.{handed_on}
use Rattle.size.specs.Size.{size_by}
use Rattle.size.proofs.Takes.{judged, first_stops, then_stops, both, refused_is, taken, sized_is, no_size}
use Rattle.size.proofs.Opcodes.{not_two_refused, store}
use Rattle.size.proofs.store.Goals as goal

pub returns-then-n-ne2 : goal.returns-then-n-ne2
unfolding size_by opcode
returns-then-n-ne2 c = not_two_refused c.args.payload.now _ c.get_u8-n.result c.get_u8-n.ensures c.if-n-ne2.true

pub returns-in_err-judge : goal.returns-in_err-judge
returns-in_err-judge c =
    let p = c.args.payload.now in
    handed_on c.from_residual.ensures.1 ∙ refused_is _ _ (first_stops _ (first_stops _ (judged c.judge.ensures c.operand_in-place.ensures c.in_err-judge.was))) ∙ store p c.get_u8-n.result c.get_u8-n.ensures c.if-n-ne2.false _

pub returns-in_err-judge-2 : goal.returns-in_err-judge-2
returns-in_err-judge-2 c =
    let p = c.args.payload.now in
    handed_on c.from_residual-in_err-judge-2.ensures.1 ∙ refused_is _ _ (first_stops _ (then_stops (judged c.judge.ensures c.operand_in-place.ensures c.in_ok-judge.was) (judged c.judge-2.ensures c.operand_in-value.ensures c.in_err-judge-2.was))) ∙ store p c.get_u8-n.result c.get_u8-n.ensures c.if-n-ne2.false _

pub returns-in-Some : goal.returns-in-Some
returns-in-Some c =
    let p = c.args.payload.now in
    let size = c.stx_mem.ensures ∙ ap (mem_code STX) c.get_u8-size.ensures in
    taken (both (both (judged c.judge.ensures c.operand_in-place.ensures c.in_ok-judge.was) (judged c.judge-2.ensures c.operand_in-value.ensures c.in_ok-judge-2.was)) (sized_is _ (sym size ∙ c.in-Some.is))) refl refl ∙ store p c.get_u8-n.result c.get_u8-n.ensures c.if-n-ne2.false _

pub returns-in-None : goal.returns-in-None
returns-in-None c =
    let p = c.args.payload.now in
    let size = c.stx_mem.ensures ∙ ap (mem_code STX) c.get_u8-size.ensures in
    rw c.get_u8-size.ensures (refused_is _ _ (then_stops (both (judged c.judge.ensures c.operand_in-place.ensures c.in_ok-judge.was) (judged c.judge-2.ensures c.operand_in-value.ensures c.in_ok-judge-2.was)) (no_size (sym size ∙ c.in-None.is))) ∙ store p c.get_u8-n.result c.get_u8-n.ensures c.if-n-ne2.false _)
