-- `put_refused` puts eight pieces, where the line has room.
use Prim.Native.Nat.{◌+◌, ◌≤◌}
use native.Mathlib.Omega.{arith}
use lib.ListN.{length}
use mathlib.Core.Path.{◌≡◌, ap, ◌∙◌}
use lib.IntN.{nat_abs}
use Rattle.std.proofs.Common.{rules}
use mir.Syntax.{w64}
use mir.ValLaws.{to_z-of_z}
use Rattle.text.specs.Digits.{sign}
use Rattle.text.specs.Ascii.{ascii}
use Rattle.text.specs.Lines.{refused_line}
use Rattle.text.proofs.LineLengths.{refused_length}
use Rattle.text.proofs.Wrote.{room, no_room, piece, ◌▸◌, whole, none}
use Rattle.text.proofs.put_refused.Goals as goal

pub returns-then-lies : goal.returns-then-lies
unfolding refused_line ascii
returns-then-lies c =
    let sign_is : c.sign-sign.result.now ≡ sign c.args.refusal.value = c.sign-sign.ensures.0 ∙ ap sign (to_z-of_z w64 c.args.refusal.value (search rules)) in
    let size_is : c.unsigned_abs-size.result ≡ nat_abs c.args.refusal.value = search rules in
    let size : 20 + c.digits.result + c.digits-2.result + length c.sign-sign.result.now + c.digits-3.result ≡ length (refused_line c.args.refusal) = omega (arith, refused_length c.args.refusal, c.digits.ensures.0, c.digits-2.ensures.0, ap length sign_is, rw size_is at c.digits-3.ensures.0) in
    let fits : c.args.at + length (refused_line c.args.refusal) ≤ length c.args.out.now = rw (← size) (room c.args.at _ (length c.args.out.now) c.lies.ensures c.if-lies.true) in
    let shown = whole
    (piece _ (c.put_word-end.ensures.value, c.put_word-end.ensures.out_after)
    ▸ piece _ (c.put_decimal-end.ensures.value, c.put_decimal-end.ensures.out_after)
    ▸ piece _ (c.put_word-end-then-lies.ensures.value, c.put_word-end-then-lies.ensures.out_after)
    ▸ piece _ (c.put_decimal-end-then-lies.ensures.value, c.put_decimal-end-then-lies.ensures.out_after)
    ▸ piece _ (c.put_word-end-then-lies-2.ensures.value, c.put_word-end-then-lies-2.ensures.out_after)
    ▸ piece _ (rw sign_is at c.put_word-end-then-lies-3.ensures.value, rw sign_is at c.put_word-end-then-lies-3.ensures.out_after)
    ▸ piece _ (rw size_is at c.put_decimal-end-then-lies-2.ensures.value, rw size_is at c.put_decimal-end-then-lies-2.ensures.out_after)
    ▸ piece _ (c.put_word.ensures.value, c.put_word.ensures.out_after))
    fits in
    record { value = shown.0; out_after = shown.1 }

pub returns : goal.returns
returns c =
    let sign_is : c.sign-sign.result.now ≡ sign c.args.refusal.value = c.sign-sign.ensures.0 ∙ ap sign (to_z-of_z w64 c.args.refusal.value (search rules)) in
    let size_is : c.unsigned_abs-size.result ≡ nat_abs c.args.refusal.value = search rules in
    let size : 20 + c.digits.result + c.digits-2.result + length c.sign-sign.result.now + c.digits-3.result ≡ length (refused_line c.args.refusal) = omega (arith, refused_length c.args.refusal, c.digits.ensures.0, c.digits-2.ensures.0, ap length sign_is, rw size_is at c.digits-3.ensures.0) in
    let out = no_room c.args.at _ (length c.args.out.now) c.lies.ensures c.if-lies.false in
    let shown = none c.args.out.now c.args.at (refused_line c.args.refusal) (omega (arith, out, size)) in
    record { value = shown.0; out_after = shown.1 }
