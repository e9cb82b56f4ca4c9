-- LoadCtx and LoadPacket: the size, and then the offset.
use mathlib.Core.Path.{refl, sym, ap, ◌∙◌}
use native.Mathlib.Omega.{arith}
use mir.Syntax.{w32, w64}
use Rattle.wire.specs.Range.{fits16}
use Rattle.wire.proofs.InRange.{cast_fits, cast_is}
use Rattle.wire.proofs.Sign.{back}
use Rattle.size.specs.Part.{takes}
use Rattle.size.proofs.Takes.{of_offset}
use Rattle.size.proofs.Opcodes.{from_context_lem}
use Rattle.size.proofs.from_context.Goals as goal

pub overflow_cast-offset : goal.overflow_cast-offset
overflow_cast-offset c =
    let i = c.get_i32-offset in
    let h = i.type_inv in
    cast_fits w32 w64 i.result (record { sfits = i.type_inv }) (record { sfits = omega arith })

pub returns-then-fits16 : goal.returns-then-fits16
unfolding takes of_offset
returns-then-fits16 c =
    let p = c.args.payload.now in
    let i = c.get_i32-offset in
    let h = i.type_inv in
    let e = ap fits16 (sym (cast_is w32 w64 i.result (record { sfits = i.type_inv }) (record { sfits = omega arith }))) ∙ sym c.fits16.ensures ∙ c.if-fits16.true in
    rw (← from_context_lem p _ _, ← c.get_u8-size.ensures, ← c.ldx_mem.ensures, c.in-Some.is, ← i.ensures, e) refl

pub returns-else-fits16 : goal.returns-else-fits16
unfolding takes of_offset
returns-else-fits16 c =
    let p = c.args.payload.now in
    let i = c.get_i32-offset in
    let h = i.type_inv in
    let e = ap fits16 (sym (cast_is w32 w64 i.result (record { sfits = i.type_inv }) (record { sfits = omega arith }))) ∙ sym c.fits16.ensures ∙ c.if-fits16.false in
    rw (← from_context_lem p _ _, ← c.get_u8-size.ensures, ← c.ldx_mem.ensures, c.in-Some.is, ← i.ensures, e) (simp (back w32 i.result i.type_inv))

pub returns-in-None : goal.returns-in-None
unfolding takes of_offset
returns-in-None c =
    let p = c.args.payload.now in
    rw (← from_context_lem p _ _, ← c.get_u8-size.ensures, ← c.ldx_mem.ensures, c.in-None.is) refl
