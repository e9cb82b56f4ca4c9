-- `plain` is one instruction.
use mir.Syntax.{w16, w32}
use Rattle.wire.proofs.Sign.{back}
use Rattle.lower.specs.Step.{ops_of, one}
use Rattle.lower.proofs.piece.plain.Goals as goal

pub returns : goal.returns
unfolding ops_of one
returns c =
    rw (c.word.ensures, back w16 c.args.off c.ranges.off.sfits, back w32 c.args.imm c.ranges.imm.sfits)
