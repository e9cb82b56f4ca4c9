-- An instruction, by the code of its opcode.
use mathlib.Core.Path.{refl, ap, ap₂, ◌∙◌}
use Prim.Native.Nat.{ℕ}
use lib.ListN.{get_or}
use mir.Syntax.{w32}
use Rattle.wire.proofs.Sign.{back}
use Rattle.ir.specs.declared.BinaryOp.TheVariants.{Add}
use Rattle.ir.specs.declared.Opcode.TheVariants as C
use Rattle.opcode.specs.Opcode.{operations, map_of}
use Rattle.opcode.proofs.Opcodes.{else_load_key}
use Rattle.record.specs.Instruction.{fields_in}
use Rattle.lower.specs.Instruction.{opcode}
use Rattle.lower.proofs.Compose.{along}
use Rattle.lower.proofs.Codes.{is_helper_call, is_store, is_load_ctx, is_load_packet, is_copy, is_null_check, is_binary, is_call_map, is_update_map, is_reserve, is_submit, lowered}
use Rattle.lower.proofs.emit.Goals as goal

pub returns-in-1 : goal.returns-in-1
unfolding opcode fields_in
returns-in-1 c =
    along (lowered c.args.payload.now (is_helper_call (fields_in c.args.payload.now 0) c.get_u8.ensures c.in-1.is) (ap C.HelperCall c.get_u32-id.ensures) _ _ _) c.helper_call.ensures

pub returns-in-3 : goal.returns-in-3
unfolding opcode fields_in
returns-in-3 c =
    along (lowered c.args.payload.now (is_store (fields_in c.args.payload.now 0) c.get_u8.ensures c.in-3.is) (ap C.Store c.get_u8-size.ensures) _ _ _) c.store_value.ensures

pub returns-in-4 : goal.returns-in-4
unfolding opcode fields_in
returns-in-4 c =
    along (lowered c.args.payload.now (is_load_ctx (fields_in c.args.payload.now 0) c.get_u8.ensures c.in-4.is) (ap₂ C.LoadCtx (back w32 c.get_i32-offset.result c.get_i32-offset.type_inv ∙ c.get_i32-offset.ensures) c.get_u8-size-in-4.ensures) _ _ _) c.from_context.ensures

pub returns-in-5 : goal.returns-in-5
unfolding opcode fields_in
returns-in-5 c =
    along (lowered c.args.payload.now (is_load_packet (fields_in c.args.payload.now 0) c.get_u8.ensures c.in-5.is) (ap₂ C.LoadPacket (back w32 c.get_i32-offset-in-5.result c.get_i32-offset-in-5.type_inv ∙ c.get_i32-offset-in-5.ensures) c.get_u8-size-in-5.ensures) _ _ _) c.from_context-in-5.ensures

pub returns-in-6 : goal.returns-in-6
unfolding opcode fields_in
returns-in-6 c =
    along (lowered c.args.payload.now (is_copy (fields_in c.args.payload.now 0) c.get_u8.ensures c.in-6.is) (ap₂ C.CopyCtxToMem (back w32 c.get_i32-offset-in-6.result c.get_i32-offset-in-6.type_inv ∙ c.get_i32-offset-in-6.ensures) c.get_u32-size.ensures) _ _ _) c.copy_context.ensures

pub returns-in-7 : goal.returns-in-7
unfolding opcode fields_in
returns-in-7 c =
    along (lowered c.args.payload.now (is_null_check (fields_in c.args.payload.now 0) c.get_u8.ensures c.in-7.is) (refl) _ _ _) c.null_check.ensures

pub returns-in-8 : goal.returns-in-8
unfolding opcode fields_in
returns-in-8 c =
    along (lowered c.args.payload.now (is_binary (fields_in c.args.payload.now 0) c.get_u8.ensures c.in-8.is) (ap C.Binary (c.operation-op.ensures ∙ ap (λ (small : ℕ). get_or operations small Add) c.get_u8-in-8.ensures)) _ _ _) c.binary.ensures

pub returns-in-9 : goal.returns-in-9
unfolding opcode fields_in
returns-in-9 c =
    along (lowered c.args.payload.now (is_call_map (fields_in c.args.payload.now 0) c.get_u8.ensures c.in-9.is) (ap C.CallMap c.get_u32-map.ensures) _ _ _) c.call_map.ensures

pub returns-in-10 : goal.returns-in-10
unfolding opcode fields_in
returns-in-10 c =
    along (lowered c.args.payload.now (is_update_map (fields_in c.args.payload.now 0) c.get_u8.ensures c.in-10.is) (ap C.UpdateMap c.get_u32-map-in-10.ensures) _ _ _) c.update_map.ensures

pub returns-in-11 : goal.returns-in-11
unfolding opcode fields_in
returns-in-11 c =
    along (lowered c.args.payload.now (is_reserve (fields_in c.args.payload.now 0) c.get_u8.ensures c.in-11.is) (ap₂ C.RingBufReserve (c.map_of-map.ensures ∙ ap map_of (back w32 c.get_i32.result c.get_i32.type_inv ∙ c.get_i32.ensures)) c.get_u32-size-in-11.ensures) _ _ _) c.reserve.ensures

pub returns-in-12 : goal.returns-in-12
unfolding opcode fields_in
returns-in-12 c =
    along (lowered c.args.payload.now (is_submit (fields_in c.args.payload.now 0) c.get_u8.ensures c.in-12.is) (refl) _ _ _) c.submit.ensures

pub returns-in_default : goal.returns-in_default
unfolding opcode fields_in
returns-in_default c =
    let r = c.in_default.in_default-own.rest in
    along (lowered c.args.payload.now (else_load_key (fields_in c.args.payload.now 0) c.get_u8.ensures r.0.0.0.0.0.0.0.0.0.0.1 r.0.0.0.0.0.0.0.0.0.1 r.0.0.0.0.0.0.0.0.1 r.0.0.0.0.0.0.0.1 r.0.0.0.0.0.0.1 r.0.0.0.0.0.1 r.0.0.0.0.1 r.0.0.0.1 r.0.0.1 r.0.1 r.1) (refl) _ _ _) c.load_key.ensures
