-- Binary.
use mathlib.Core.Path.{refl, ap, ◌∙◌}
use Prim.Native.Nat.{ℕ, ◌+◌}
use Rattle.lower.specs.Instruction.{opcode}
use Rattle.lower.proofs.Exits.{handed_on}
use Rattle.size.specs.Part.{operate_slots}
use Rattle.size.specs.Size.{size_by}
use Rattle.size.proofs.Takes.{judged, first_stops, then_stops, both, refused_is, taken}
use Rattle.size.proofs.Opcodes.{not_two_refused, binary}
use Rattle.size.proofs.binary.Goals as goal

pub returns-then-n-ne2 : goal.returns-then-n-ne2
unfolding size_by opcode
returns-then-n-ne2 c = not_two_refused c.args.payload.now _ c.get_u8-n.result c.get_u8-n.ensures c.if-n-ne2.true

pub returns-in_err-judge : goal.returns-in_err-judge
returns-in_err-judge c =
    let p = c.args.payload.now in
    handed_on c.from_residual.ensures.1 ∙ refused_is _ _ (first_stops _ (judged c.judge.ensures c.operand_in-a.ensures c.in_err-judge.was)) ∙ binary p c.get_u8-n.result c.get_u8-n.ensures c.if-n-ne2.false _

pub returns-in_err-judge-2 : goal.returns-in_err-judge-2
returns-in_err-judge-2 c =
    let p = c.args.payload.now in
    handed_on c.from_residual-in_err-judge-2.ensures.1 ∙ refused_is _ _ (then_stops (judged c.judge.ensures c.operand_in-a.ensures c.in_ok-judge.was) (judged c.judge-2.ensures c.operand_in-b.ensures c.in_err-judge-2.was)) ∙ binary p c.get_u8-n.result c.get_u8-n.ensures c.if-n-ne2.false _

pub returns : goal.returns
returns c =
    let p = c.args.payload.now in
    taken (both (judged c.judge.ensures c.operand_in-a.ensures c.in_ok-judge.was) (judged c.judge-2.ensures c.operand_in-b.ensures c.in_ok-judge-2.was)) refl (ap (λ (k : ℕ). 2 + k) (c.operate_slots-slots.ensures.0 ∙ ap operate_slots c.operand_in-b.ensures)) ∙ binary p c.get_u8-n.result c.get_u8-n.ensures c.if-n-ne2.false _
