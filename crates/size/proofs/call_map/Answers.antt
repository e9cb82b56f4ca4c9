-- CallMap.
use mathlib.Core.Path.{ap, ◌∙◌}
use Prim.Native.Nat.{ℕ, ◌+◌}
use Rattle.lower.specs.Instruction.{opcode}
use Rattle.lower.proofs.Exits.{handed_on}
use Rattle.std.specs.Prelude.{Some}
use Rattle.size.specs.Part.{address_slots}
use Rattle.size.specs.Size.{size_by}
use Rattle.size.proofs.Takes.{judged, refused_is, taken}
use Rattle.size.proofs.Opcodes.{no_first_refused, call_map}
use Rattle.size.proofs.call_map.Goals as goal

pub returns-then-get_u8-eq0 : goal.returns-then-get_u8-eq0
unfolding size_by opcode
returns-then-get_u8-eq0 c = no_first_refused c.args.payload.now _ c.get_u8.result c.get_u8.ensures c.if-get_u8-eq0.true

pub returns-in_err-judge : goal.returns-in_err-judge
returns-in_err-judge c =
    let p = c.args.payload.now in
    handed_on c.from_residual.ensures.1 ∙ refused_is _ _ (judged c.judge.ensures c.operand_in-a.ensures c.in_err-judge.was) ∙ call_map p c.get_u8.result c.get_u8.ensures c.if-get_u8-eq0.false _

pub returns : goal.returns
returns c =
    let p = c.args.payload.now in
    taken (judged c.judge.ensures c.operand_in-a.ensures c.in_ok-judge.was) (ap Some c.get_u32.ensures) (ap (λ (k : ℕ). 4 + k) (c.address_slots-slots.ensures.0 ∙ ap address_slots c.operand_in-a.ensures)) ∙ call_map p c.get_u8.result c.get_u8.ensures c.if-get_u8-eq0.false _
