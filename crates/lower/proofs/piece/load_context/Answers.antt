-- `load_context` checks the size, and then the offset.
use mathlib.Core.Path.{sym, ap, ◌∙◌}
use native.Mathlib.Omega.{arith}
use mir.Syntax.{w16, w32, w64}
use mir.ValLaws.{to_z-of_z}
use Rattle.wire.specs.Range.{fits16}
use Rattle.wire.proofs.InRange.{in16, cast_fits, cast_is}
use Rattle.lower.specs.Instruction.{sized, mem}
use Rattle.lower.specs.Step.{ops_in, words, word_is}
use Rattle.lower.proofs.piece.load_context.Goals as goal

pub overflow_cast-offset : goal.overflow_cast-offset
overflow_cast-offset c =
    let h = c.ranges.offset.sfits in
    cast_fits w32 w64 c.args.offset c.ranges.offset (record { sfits = omega arith })

pub overflow_cast-offset-then-fits16 : goal.overflow_cast-offset-then-fits16
overflow_cast-offset-then-fits16 c =
    let h = c.ranges.offset.sfits in
    let w = cast_is w32 w64 c.args.offset c.ranges.offset (record { sfits = omega arith }) in
    let e = ap fits16 (sym w) ∙ sym c.fits16.ensures ∙ c.if-fits16.true in
    cast_fits w32 w16 c.args.offset c.ranges.offset (in16 c.args.offset e)

pub returns-then-fits16 : goal.returns-then-fits16
unfolding word_is words ops_in sized mem
returns-then-fits16 c =
    let h = c.ranges.offset.sfits in
    let w = cast_is w32 w64 c.args.offset c.ranges.offset (record { sfits = omega arith }) in
    let e = ap fits16 (sym w) ∙ sym c.fits16.ensures ∙ c.if-fits16.true in
    rw (c.word.ensures, ← c.ldx_mem.ensures, c.in-Some.is, cast_is w32 w16 c.args.offset c.ranges.offset (in16 c.args.offset e), e)

pub returns-else-fits16 : goal.returns-else-fits16
unfolding word_is sized
returns-else-fits16 c =
    let h = c.ranges.offset.sfits in
    let w = cast_is w32 w64 c.args.offset c.ranges.offset (record { sfits = omega arith }) in
    let e = ap fits16 (sym w) ∙ sym c.fits16.ensures ∙ c.if-fits16.false in
    rw (← c.ldx_mem.ensures, c.in-Some.is, to_z-of_z w32 c.args.offset c.ranges.offset, e)

pub returns-in-None : goal.returns-in-None
unfolding word_is sized
returns-in-None c = rw (← c.ldx_mem.ensures, c.in-None.is)
