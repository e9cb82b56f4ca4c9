-- UpdateMap.
use mathlib.Core.Path.{ap, ap₂, ◌∙◌}
use Prim.Native.Nat.{ℕ, ◌+◌}
use Rattle.lower.specs.Instruction.{opcode}
use Rattle.lower.proofs.Exits.{handed_on}
use Rattle.std.specs.Prelude.{Some}
use Rattle.size.specs.Part.{address_slots}
use Rattle.size.specs.Size.{size_by}
use Rattle.size.proofs.Takes.{judged, first_stops, then_stops, both, refused_is, taken}
use Rattle.size.proofs.Opcodes.{not_two_refused, update_map}
use Rattle.size.proofs.update_map.Goals as goal

pub returns-then-n-ne2 : goal.returns-then-n-ne2
unfolding size_by opcode
returns-then-n-ne2 c = not_two_refused c.args.payload.now _ c.get_u8-n.result c.get_u8-n.ensures c.if-n-ne2.true

pub returns-in_err-judge : goal.returns-in_err-judge
returns-in_err-judge c =
    let p = c.args.payload.now in
    handed_on c.from_residual.ensures.1 ∙ refused_is _ _ (first_stops _ (judged c.judge.ensures c.operand_in-a.ensures c.in_err-judge.was)) ∙ update_map p c.get_u8-n.result c.get_u8-n.ensures c.if-n-ne2.false _

pub returns-in_err-judge-2 : goal.returns-in_err-judge-2
returns-in_err-judge-2 c =
    let p = c.args.payload.now in
    handed_on c.from_residual-in_err-judge-2.ensures.1 ∙ refused_is _ _ (then_stops (judged c.judge.ensures c.operand_in-a.ensures c.in_ok-judge.was) (judged c.judge-2.ensures c.operand_in-b.ensures c.in_err-judge-2.was)) ∙ update_map p c.get_u8-n.result c.get_u8-n.ensures c.if-n-ne2.false _

pub returns : goal.returns
returns c =
    let p = c.args.payload.now in
    taken (both (judged c.judge.ensures c.operand_in-a.ensures c.in_ok-judge.was) (judged c.judge-2.ensures c.operand_in-b.ensures c.in_ok-judge-2.was)) (ap Some c.get_u32.ensures) (ap₂ (λ (k l : ℕ). 5 + k + l) (c.address_slots.ensures.0 ∙ ap address_slots c.operand_in-a.ensures) (c.address_slots-2.ensures.0 ∙ ap address_slots c.operand_in-b.ensures)) ∙ update_map p c.get_u8-n.result c.get_u8-n.ensures c.if-n-ne2.false _
