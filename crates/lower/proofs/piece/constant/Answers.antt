-- `constant` is a MOV64.
use mathlib.Core.Path.{ap, ◌∙◌}
use mir.Syntax.{w64}
use mir.ValLaws.{to_z-of_z}
use Rattle.lower.specs.Step.{with_constant}
use Rattle.lower.proofs.Pieces.{is_constant}
use Rattle.lower.proofs.piece.constant.Goals as goal

pub returns : goal.returns
returns c =
    c.single.ensures ∙ c.constant_word.ensures ∙ ap (with_constant 0xb7 c.args.r) (to_z-of_z w64 c.args.z c.ranges.z) ∙ is_constant c.args.r c.args.z
