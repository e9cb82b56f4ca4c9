-- `put_reloc` puts five pieces, where the line has room.
use Prim.Native.Nat.{◌+◌, ◌≤◌}
use native.Mathlib.Omega.{arith}
use lib.ListN.{length}
use Rattle.text.specs.Ascii.{ascii}
use Rattle.text.specs.Lines.{reloc_line}
use Rattle.text.proofs.LineLengths.{reloc_length}
use Rattle.text.proofs.Wrote.{room, no_room, piece, ◌▸◌, whole, none}
use Rattle.text.proofs.put_reloc.Goals as goal
use Rattle.text.proofs.put_reloc.Goals.{else-lies-via-then-lies+else-lies-2, else-lies-via-else-lies}

pub overflow_add-at : goal.overflow_add-at
overflow_add-at c =
    omega (arith, room c.args.at (length c.args.name.now) (length c.args.out.now) c.lies.ensures c.if-lies.true)

pub returns-then-lies-2 : goal.returns-then-lies-2
unfolding reloc_line ascii
returns-then-lies-2 c =
    let fits : c.args.at + length (reloc_line c.args.offset.0 c.args.name.now) ≤ length c.args.out.now = omega
    (arith, room (c.args.at + length c.args.name.now) (8 + c.digits.result) (length c.args.out.now) c.lies-then-lies.ensures c.if-lies-2.true, reloc_length c.args.offset.0 c.args.name.now, c.digits.ensures.0) in
    let shown = whole
    (piece _ (c.put_word-end.ensures.value, c.put_word-end.ensures.out_after)
    ▸ piece _ (c.put_decimal-end.ensures.value, c.put_decimal-end.ensures.out_after)
    ▸ piece _ (c.put_word-end-then-lies-2.ensures.value, c.put_word-end-then-lies-2.ensures.out_after)
    ▸ piece _ (c.put_name-end.ensures.value, c.put_name-end.ensures.out_after)
    ▸ piece _ (c.put_word.ensures.value, c.put_word.ensures.out_after))
    fits in
    record { value = shown.0; out_after = shown.1 }

pub returns : goal.returns
returns c =
    let n = reloc_length c.args.offset.0 c.args.name.now in
    let shown = none c.args.out.now c.args.at (reloc_line c.args.offset.0 c.args.name.now) (elim c.else-lies.branch [
      | else-lies-via-then-lies+else-lies-2 w ↦
          let out = no_room (c.args.at + length c.args.name.now) (8 + w.digits.result) (length c.args.out.now) w.lies-then-lies.ensures w.if-lies-2.false in
          omega (arith, w.digits.ensures.0)
      | else-lies-via-else-lies w ↦
          let out = no_room c.args.at (length c.args.name.now) (length c.args.out.now) c.lies.ensures w.if-lies.false in
          omega arith
    ]) in
    record { value = shown.0; out_after = shown.1 }
