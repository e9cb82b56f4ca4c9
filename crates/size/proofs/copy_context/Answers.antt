-- CopyCtxToMem.
use mathlib.Core.Path.{refl, sym, ap, ◌∙◌}
use native.Mathlib.Omega.{arith}
use lib.IntN.{pos}
use mir.Syntax.{w64}
use mir.ValLaws.{to_z_pos}
use Rattle.lower.specs.Instruction.{opcode}
use Rattle.lower.proofs.Exits.{handed_on}
use Rattle.size.specs.Part.{of_constant}
use Rattle.size.specs.Size.{size_by}
use Rattle.size.proofs.Takes.{judged, first_stops, then_stops, both, refused_is, taken}
use Rattle.size.proofs.Opcodes.{no_first_refused, copy_context}
use Rattle.size.proofs.copy_context.Goals as goal

pub returns-then-get_u8-eq0 : goal.returns-then-get_u8-eq0
unfolding size_by opcode
returns-then-get_u8-eq0 c = no_first_refused c.args.payload.now _ c.get_u8.result c.get_u8.ensures c.if-get_u8-eq0.true

pub returns-in_err-judge : goal.returns-in_err-judge
returns-in_err-judge c =
    let p = c.args.payload.now in
    handed_on c.from_residual.ensures.1 ∙ refused_is _ _ (first_stops _ (judged c.judge.ensures c.operand_in-a.ensures c.in_err-judge.was)) ∙ copy_context p c.get_u8.result c.get_u8.ensures c.if-get_u8-eq0.false _ _

pub returns-in_err-constant : goal.returns-in_err-constant
returns-in_err-constant c =
    let p = c.args.payload.now in
    let size = ap of_constant (to_z_pos w64 c.get_u32.result (omega (arith, c.get_u32.type_inv)) ∙ ap pos c.get_u32.ensures) in
    handed_on c.from_residual-in_err-constant.ensures.1 ∙ refused_is _ _ (then_stops (judged c.judge.ensures c.operand_in-a.ensures c.in_ok-judge.was) (sym (c.constant.ensures ∙ size) ∙ c.in_err-constant.was)) ∙ copy_context p c.get_u8.result c.get_u8.ensures c.if-get_u8-eq0.false _ _

pub returns : goal.returns
returns c =
    let p = c.args.payload.now in
    let size = ap of_constant (to_z_pos w64 c.get_u32.result (omega (arith, c.get_u32.type_inv)) ∙ ap pos c.get_u32.ensures) in
    taken (both (judged c.judge.ensures c.operand_in-a.ensures c.in_ok-judge.was) (sym (c.constant.ensures ∙ size) ∙ c.in_ok-constant.was)) refl refl ∙ copy_context p c.get_u8.result c.get_u8.ensures c.if-get_u8-eq0.false _ _
