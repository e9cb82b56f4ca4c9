-- CopyCtxToMem.
use mathlib.Core.Path.{ap, ◌∙◌}
use native.Mathlib.Omega.{arith}
use mir.Syntax.{w32, w64}
use mir.ValLaws.{to_z_pos, to_z-of_z}
use Rattle.insn.specs.Form.{opcode_of}
use Rattle.lower.specs.Op.{insn}
use Rattle.lower.specs.Operand.{constant, move, add, call}
use Rattle.lower.specs.Payload.{operands_of}
use Rattle.lower.specs.Instruction.{opcode}
use Rattle.lower.specs.Step.{one, map_ops, chain}
use Rattle.lower.proofs.Counts.{first_is, no_first}
use Rattle.lower.proofs.Compose.{along, none_put, passed_on}
use Rattle.lower.proofs.Words.{known, piece_is, piece_refused, ◌then◌, split, stops, past}
use Rattle.lower.proofs.instruction.copy_context.Goals as goal

pub returns-then-n-eq0 : goal.returns-then-n-eq0
unfolding opcode operands_of
returns-then-n-eq0 c =
    rw (← c.count_in-n.ensures) (none_put (no_first c.args.payload.now 16 c.count_in-n.result _ c.if-n-eq0.true))

pub returns-in_err-load : goal.returns-in_err-load
unfolding opcode operands_of
returns-in_err-load c =
    rw (← c.count_in-n.ensures) (passed_on c.from_residual.ensures.1 (past _ (past _ (past _ (past _ (past _ (piece_refused c.load.ensures c.in_err-load.was))))) ∙ first_is c.args.payload.now 16 c.count_in-n.result _ c.operand_in-a.ensures c.if-n-eq0.false))

pub returns-in_err-constant : goal.returns-in_err-constant
unfolding opcode operands_of
returns-in_err-constant c =
    let size = c.constant.ensures ∙ ap (constant 2) (to_z_pos w64 c.args.size (omega (arith, c.ranges.size.fits))) in
    rw (← c.count_in-n.ensures) (passed_on c.from_residual-in_err-constant.ensures.1 (past _ (past _ (past _ (past _ (stops (piece_is c.load.ensures c.in_ok-load.was) (piece_refused size c.in_err-constant.was))))) ∙ first_is c.args.payload.now 16 c.count_in-n.result _ c.operand_in-a.ensures c.if-n-eq0.false))

pub returns-in_err-keep : goal.returns-in_err-keep
unfolding opcode operands_of call insn opcode_of one
returns-in_err-keep c =
    let size = c.constant.ensures ∙ ap (constant 2) (to_z_pos w64 c.args.size (omega (arith, c.ranges.size.fits))) in
    let address = rw (to_z-of_z w32 c.args.offset c.ranges.offset) at c.context_address.ensures in
    rw (← c.count_in-n.ensures, ← c.result_in.ensures)
    (passed_on c.from_residual-in_err-keep.ensures.1 (stops (split (move 3 6) (add 3 c.args.offset) (piece_is c.load.ensures c.in_ok-load.was then piece_is size c.in_ok-constant.was) (known address) then known c.plain.ensures) (piece_refused c.keep.ensures c.in_err-keep.was) ∙ first_is c.args.payload.now 16 c.count_in-n.result _ c.operand_in-a.ensures c.if-n-eq0.false))

pub returns : goal.returns
unfolding opcode operands_of call insn opcode_of one map_ops chain
returns c =
    let size = c.constant.ensures ∙ ap (constant 2) (to_z_pos w64 c.args.size (omega (arith, c.ranges.size.fits))) in
    let address = rw (to_z-of_z w32 c.args.offset c.ranges.offset) at c.context_address.ensures in
    rw (← c.count_in-n.ensures, ← c.result_in.ensures)
    (along ((split (move 3 6) (add 3 c.args.offset) (piece_is c.load.ensures c.in_ok-load.was then piece_is size c.in_ok-constant.was) (known address) then known c.plain.ensures then piece_is c.keep.ensures c.in_ok-keep.was).same ∙ first_is c.args.payload.now 16 c.count_in-n.result _ c.operand_in-a.ensures c.if-n-eq0.false) c.pieces.ensures)
