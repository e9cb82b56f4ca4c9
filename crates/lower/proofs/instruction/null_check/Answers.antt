-- NullCheck.
use mathlib.Core.Path.{◌∙◌}
use Rattle.lower.specs.Payload.{operands_of}
use Rattle.lower.specs.Instruction.{opcode}
use Rattle.lower.specs.Step.{map_ops, chain}
use Rattle.lower.proofs.Counts.{first_is, no_first}
use Rattle.lower.proofs.Compose.{along, none_put, passed_on}
use Rattle.lower.proofs.Pieces.{null_parts}
use Rattle.lower.proofs.Words.{known, piece_is, piece_refused, ◌then◌, triple, stops, past}
use Rattle.lower.proofs.instruction.null_check.Goals as goal

pub returns-then-n-eq0 : goal.returns-then-n-eq0
unfolding opcode operands_of
returns-then-n-eq0 c =
    rw (← c.count_in-n.ensures) (none_put (no_first c.args.payload.now 16 c.count_in-n.result _ c.if-n-eq0.true))

pub returns-in_err-load : goal.returns-in_err-load
unfolding opcode operands_of
returns-in_err-load c =
    rw (← c.count_in-n.ensures) (passed_on c.from_residual.ensures.1 (past _ (past _ (piece_refused c.load.ensures c.in_err-load.was)) ∙ first_is c.args.payload.now 16 c.count_in-n.result _ c.operand_in-a.ensures c.if-n-eq0.false))

pub returns-in_err-keep : goal.returns-in_err-keep
unfolding opcode operands_of
returns-in_err-keep c =
    rw (← c.count_in-n.ensures, ← c.result_in.ensures)
    (passed_on c.from_residual-in_err-keep.ensures.1 (stops (triple (piece_is c.load.ensures c.in_ok-load.was) (known c.null_test.ensures) (known c.null_zero.ensures) (known c.null_rest.ensures) (null_parts _)) (piece_refused c.keep.ensures c.in_err-keep.was) ∙ first_is c.args.payload.now 16 c.count_in-n.result _ c.operand_in-a.ensures c.if-n-eq0.false))

pub returns : goal.returns
unfolding opcode operands_of map_ops chain
returns c =
    rw (← c.count_in-n.ensures, ← c.result_in.ensures)
    (along ((triple (piece_is c.load.ensures c.in_ok-load.was) (known c.null_test.ensures) (known c.null_zero.ensures) (known c.null_rest.ensures) (null_parts _) then piece_is c.keep.ensures c.in_ok-keep.was).same ∙ first_is c.args.payload.now 16 c.count_in-n.result _ c.operand_in-a.ensures c.if-n-eq0.false) c.pieces.ensures)
