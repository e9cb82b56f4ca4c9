-- RingBufReserve.
use mathlib.Core.Path.{ap, ◌∙◌}
use native.Mathlib.Omega.{arith}
use mir.Syntax.{w64}
use mir.ValLaws.{to_z_pos}
use Rattle.wire.specs.Range.{fits32}
use Rattle.insn.specs.Form.{opcode_of}
use Rattle.lower.specs.Op.{insn}
use Rattle.lower.specs.Operand.{constant, call}
use Rattle.lower.specs.Instruction.{opcode}
use Rattle.lower.specs.Step.{one, chain}
use Rattle.lower.proofs.Compose.{along, passed_on}
use Rattle.lower.proofs.Words.{map_is, known, piece_is, piece_refused, ◌then◌, stops, past}
use Rattle.lower.proofs.instruction.reserve.Goals as goal

pub returns-in_err-constant : goal.returns-in_err-constant
unfolding opcode
returns-in_err-constant c =
    let size = c.constant.ensures ∙ ap (constant 2) (to_z_pos w64 c.args.size (omega (arith, c.ranges.size.fits))) in
    passed_on c.from_residual.ensures.1 (past _ (past _ (past _ (stops (map_is _) (piece_refused size c.in_err-constant.was)))))

pub returns-in_err-keep : goal.returns-in_err-keep
unfolding opcode call fits32 insn opcode_of one constant
returns-in_err-keep c =
    let size = c.constant.ensures ∙ ap (constant 2) (to_z_pos w64 c.args.size (omega (arith, c.ranges.size.fits))) in
    rw (← c.result_in.ensures)
    (passed_on c.from_residual-in_err-keep.ensures.1 (stops ((map_is _) then piece_is size c.in_ok-constant.was then known c.plain.ensures then known c.plain-2.ensures) (piece_refused c.keep.ensures c.in_err-keep.was)))

pub returns : goal.returns
unfolding opcode call fits32 insn opcode_of one constant chain
returns c =
    let size = c.constant.ensures ∙ ap (constant 2) (to_z_pos w64 c.args.size (omega (arith, c.ranges.size.fits))) in
    rw (← c.result_in.ensures)
    (along ((map_is _) then piece_is size c.in_ok-constant.was then known c.plain.ensures then known c.plain-2.ensures then piece_is c.keep.ensures c.in_ok-keep.was).same c.pieces.ensures)
