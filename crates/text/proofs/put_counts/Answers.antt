-- `put_counts` puts five pieces, where the line has room.
use Prim.Native.Nat.{◌+◌, ◌≤◌}
use native.Mathlib.Omega.{arith}
use lib.ListN.{length}
use Rattle.text.specs.Ascii.{ascii}
use Rattle.text.specs.Lines.{counts_line}
use Rattle.text.proofs.LineLengths.{counts_length}
use Rattle.text.proofs.Wrote.{room, no_room, piece, ◌▸◌, whole, none}
use Rattle.text.proofs.put_counts.Goals as goal

pub returns-then-lies : goal.returns-then-lies
unfolding counts_line ascii
returns-then-lies c =
    let fits : c.args.at + length (counts_line c.args.slots.0 c.args.relocs) ≤ length c.args.out.now = omega
    (arith, room c.args.at (15 + c.digits.result + c.digits-2.result) (length c.args.out.now) c.lies.ensures c.if-lies.true, counts_length c.args.slots.0 c.args.relocs, c.digits-2.ensures.0, c.digits.ensures.0) in
    let shown = whole
    (piece _ (c.put_word-end.ensures.value, c.put_word-end.ensures.out_after)
    ▸ piece _ (c.put_decimal-end.ensures.value, c.put_decimal-end.ensures.out_after)
    ▸ piece _ (c.put_word-end-then-lies.ensures.value, c.put_word-end-then-lies.ensures.out_after)
    ▸ piece _ (c.put_decimal-end-then-lies.ensures.value, c.put_decimal-end-then-lies.ensures.out_after)
    ▸ piece _ (c.put_word.ensures.value, c.put_word.ensures.out_after))
    fits in
    record { value = shown.0; out_after = shown.1 }

pub returns : goal.returns
returns c =
    let out = no_room c.args.at (15 + c.digits.result + c.digits-2.result) (length c.args.out.now) c.lies.ensures c.if-lies.false in
    let shown = none c.args.out.now c.args.at (counts_line c.args.slots.0 c.args.relocs) (omega (arith, counts_length c.args.slots.0 c.args.relocs, c.digits-2.ensures.0, c.digits.ensures.0)) in
    record { value = shown.0; out_after = shown.1 }
