-- The screen's known points: slot 0 alone, and EXIT alone.
use mathlib.Core.Path.{◌≡◌, refl, ap}
use mathlib.Core.List.{List, [], ◌∷◌}
use Prim.Native.Nat.{ℕ}
use native.Mathlib.Omega.{arith}
use lib.IntN.{pos}
use lib.ListN.{length}
use Rattle.wire.specs.Le as le
use Rattle.wire.specs.Pick.{is_zero}
use Rattle.insn.specs.Form.{opcode_of, jumps, form_of}
use Rattle.insn.specs.Layout.{bytes_of, insn_at}
use Rattle.layout.specs.Code.{insns, code_bytes}
use Rattle.shape.specs.Code.{slots, at, form_at, wide, start}
use Rattle.shape.specs.Fields.{uses}
use Rattle.shape.specs.Relocations.{wide_from, wide_offsets, differs, relocations}
use Rattle.shape.specs.Shape.{known, registers_ok, unused_zero, access_ok, first_broken, shape_of, shape_at}
use Rattle.shape.specs.Shapes.{or_else, shapes_from, shapes, length_ok, with_relocations, and_relocations, judged}
use Rattle.shape.specs.declared.Shapes.TheVariants as Ss
use Rattle.paths.specs.Registers.{reads, at_start}
use Rattle.paths.specs.Way.{begin, Lacking}
use Rattle.screen.specs.Verdict as screen
use Rattle.screen.specs.Verdict.{Judged, unreadable}
use Rattle.screen.specs.declared.Fault.TheVariants.{Unreadable, PastEnd}
use Rattle.screen.proofs.Before as before
use Rattle.screen.proofs.OneAnswer.{one_verdict}
use Rattle.ours.proofs.Alone.{alone, alone_judged, alone_past}
use Rattle.tracepoint.specs.Compile.{told}
use Rattle.proved.specs.Known.{printed, refusal_of, ScreenTells}
use Rattle.screen.specs.declared.Fault.{Fault}
use Rattle.std.specs.Prelude.{Err, Ok, Result, ⊤}

-- code whose shape is fine has the verdict on its paths, whatever the table
judged_tells : (b l : List ℕ) (v : Result ⊤ Fault) → judged b l ≡ Ok tt → Judged b v → ScreenTells b l (refusal_of v)
judged_tells b l v f j t t' w room p =
    let e = before.whole b l (length t) room f in
    let q = rw e at p in
    ap refusal_of (one_verdict b l t w v t' t' p (rw e (j, q.1))).0

-- R6 = R1
pub move_alone : ScreenTells (printed (0xbf16000000000000 ∷ [])) [] (told 39 1 (pos 0))
unfolding printed insns code_bytes bytes_of opcode_of le.bytes_of le.signed_bytes le.unsigned_bytes screen.refusal_of
move_alone = judged_tells (alone []) [] (Err (PastEnd 1)) (alone_judged []) (alone_past [])

-- EXIT
abbrev exit : List ℕ
exit = printed (0x9500000000000000 ∷ [])

exit_judged : judged exit [] ≡ Ok tt
unfolding printed judged length_ok and_relocations shapes shapes_from or_else shape_at shape_of first_broken slots start at form_at wide insn_at le.unsigned_at le.signed_at le.le form_of jumps uses known registers_ok unused_zero access_ok is_zero relocations wide_offsets wide_from differs with_relocations
exit_judged = refl

exit_lacks : Lacking exit 0 0
unfolding printed slots at form_at insn_at form_of jumps reads at_start
exit_lacks = record { inside = omega arith; read = refl; lacks = (at_start, (begin, refl)); lowest = λ q h. absurd (omega arith) }

pub exit_alone : ScreenTells exit [] (told 38 0 (pos 0))
unfolding screen.refusal_of
exit_alone = judged_tells exit [] (Err (Unreadable 0 0)) exit_judged (unreadable exit_lacks (λ t h. absurd (omega arith)))
