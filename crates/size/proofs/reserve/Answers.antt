-- RingBufReserve.
use mathlib.Core.Path.{refl, sym, ap, ◌∙◌}
use native.Mathlib.Omega.{arith}
use lib.IntN.{pos}
use mir.Syntax.{w32, w64}
use mir.ValLaws.{to_z_pos}
use Rattle.wire.proofs.Sign.{back}
use Rattle.std.specs.Prelude.{Some}
use Rattle.opcode.specs.Opcode.{map_of}
use Rattle.lower.proofs.Exits.{handed_on}
use Rattle.size.specs.Part.{of_constant}
use Rattle.size.proofs.Takes.{refused_is, taken}
use Rattle.size.proofs.Opcodes.{reserve}
use Rattle.size.proofs.reserve.Goals as goal

pub returns-in_err-constant : goal.returns-in_err-constant
returns-in_err-constant c =
    let p = c.args.payload.now in
    let size = ap of_constant (to_z_pos w64 c.get_u32.result (omega (arith, c.get_u32.type_inv)) ∙ ap pos c.get_u32.ensures) in
    handed_on c.from_residual.ensures.1 ∙ refused_is _ _ (sym (c.constant.ensures ∙ size) ∙ c.in_err-constant.was) ∙ reserve p _ _

pub returns : goal.returns
returns c =
    let p = c.args.payload.now in
    let size = ap of_constant (to_z_pos w64 c.get_u32.result (omega (arith, c.get_u32.type_inv)) ∙ ap pos c.get_u32.ensures) in
    let map = c.map_of.ensures ∙ ap map_of (back w32 c.get_i32.result c.get_i32.type_inv ∙ c.get_i32.ensures) in
    taken (sym (c.constant.ensures ∙ size) ∙ c.in_ok-constant.was) (ap Some map) refl ∙ reserve p _ _
