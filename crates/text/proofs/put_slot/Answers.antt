-- `put_slot` puts four pieces, where the line has room.
use Prim.Native.Nat.{◌+◌, ◌≤◌}
use mathlib.Core.Path.{◌≡◌, sym, ap, ◌∙◌}
use native.Mathlib.Omega.{arith}
use mir.Syntax.{w64}
use lib.ListN.{length}
use Rattle.wire.specs.Le.{unsigned_bytes}
use Rattle.wire.proofs.Le.{to_le}
use Rattle.text.specs.Ascii.{ascii}
use Rattle.text.specs.Lines.{slot_bytes, slot_line}
use Rattle.text.proofs.LineLengths.{slot_length}
use Rattle.text.proofs.Wrote.{room, no_room, piece, ◌▸◌, whole, none}
use Rattle.text.proofs.put_slot.Goals as goal

pub returns-then-lies : goal.returns-then-lies
unfolding slot_line slot_bytes ascii
returns-then-lies c =
    let fits : c.args.at + length (slot_line c.args.slot.0 (slot_bytes c.args.code.now c.args.slot.0)) ≤ length c.args.out.now = omega (arith, room c.args.at (18 + c.digits.result) (length c.args.out.now) c.lies.ensures c.if-lies.true, slot_length c.args.slot.0 c.args.code.now, c.digits.ensures.0) in
    let bytes : c.to_le_bytes-bytes.result ≡ slot_bytes c.args.code.now c.args.slot.0 = c.to_le_bytes-bytes.ensures ∙ sym (to_le w64 c.get_u64.result) ∙ ap (unsigned_bytes w64) (rw c.byte_offset-place.ensures at c.get_u64.ensures) in
    let shown = whole
    (piece _ (c.put_decimal-end.ensures.value, c.put_decimal-end.ensures.out_after)
    ▸ piece _ (c.put_word-end.ensures.value, c.put_word-end.ensures.out_after)
    ▸ piece _ (rw bytes at c.put_hex-end.ensures.value, rw bytes at c.put_hex-end.ensures.out_after)
    ▸ piece _ (c.put_word.ensures.value, c.put_word.ensures.out_after))
    fits in
    record { value = shown.0; out_after = shown.1 }

pub returns : goal.returns
returns c =
    let out = no_room c.args.at (18 + c.digits.result) (length c.args.out.now) c.lies.ensures c.if-lies.false in
    let shown = none c.args.out.now c.args.at (slot_line c.args.slot.0 (slot_bytes c.args.code.now c.args.slot.0)) (omega (arith, slot_length c.args.slot.0 c.args.code.now, c.digits.ensures.0)) in
    record { value = shown.0; out_after = shown.1 }
