-- `constant` refuses what is outside i32.
use mathlib.Core.Path.{sym, ap, ◌∙◌}
use mir.Syntax.{w64}
use mir.ValLaws.{to_z-of_z}
use Rattle.wire.specs.Range.{fits32}
use Rattle.size.specs.Part.{of_constant}
use Rattle.size.proofs.part.constant.Goals as goal

pub returns-then-fits32 : goal.returns-then-fits32
unfolding of_constant
returns-then-fits32 c =
    rw (ap fits32 (sym (to_z-of_z w64 c.args.z c.ranges.z)) ∙ sym c.fits32.ensures ∙ c.if-fits32.true)

pub returns : goal.returns
unfolding of_constant
returns c =
    let e = to_z-of_z w64 c.args.z c.ranges.z in
    rw (e, ap fits32 (sym e) ∙ sym c.fits32.ensures ∙ c.if-fits32.false)
