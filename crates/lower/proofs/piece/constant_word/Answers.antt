-- `constant_word` checks the constant.
use mathlib.Core.Path.{sym, ap, ◌∙◌}
use mir.Syntax.{w32, w64}
use mir.ValLaws.{to_z-of_z}
use Rattle.wire.specs.Range.{fits32}
use Rattle.wire.proofs.InRange.{in32, cast_fits, cast_is}
use Rattle.lower.specs.Step.{ops_in, words, word_is, one, with_constant}
use Rattle.lower.proofs.piece.constant_word.Goals as goal

pub overflow_cast-z : goal.overflow_cast-z
overflow_cast-z c =
    let e = ap fits32 (sym (to_z-of_z w64 c.args.z c.ranges.z)) ∙ sym c.fits32.ensures ∙ c.if-fits32.true in
    cast_fits w64 w32 c.args.z c.ranges.z (in32 c.args.z e)

pub returns-then-fits32 : goal.returns-then-fits32
unfolding word_is words ops_in with_constant one
returns-then-fits32 c =
    let e = ap fits32 (sym (to_z-of_z w64 c.args.z c.ranges.z)) ∙ sym c.fits32.ensures ∙ c.if-fits32.true in
    rw (c.word.ensures, cast_is w64 w32 c.args.z c.ranges.z (in32 c.args.z e), e)

pub returns : goal.returns
unfolding word_is with_constant
returns c =
    let e = to_z-of_z w64 c.args.z c.ranges.z in
    rw (e, ap fits32 (sym e) ∙ sym c.fits32.ensures ∙ c.if-fits32.false)
