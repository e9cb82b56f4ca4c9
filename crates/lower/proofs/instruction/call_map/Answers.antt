-- CallMap.
use mathlib.Core.Path.{◌∙◌}
use Rattle.insn.specs.Form.{opcode_of}
use Rattle.frame.specs.Lent.{frame_in}
use Rattle.lower.specs.Op.{insn}
use Rattle.lower.specs.Operand.{call}
use Rattle.lower.specs.Payload.{operands_of}
use Rattle.lower.specs.Instruction.{opcode}
use Rattle.lower.specs.Step.{one, chain}
use Rattle.lower.proofs.Counts.{first_is, no_first}
use Rattle.lower.proofs.Compose.{along, none_put, passed_on}
use Rattle.lower.proofs.Pieces.{addr_parts}
use Rattle.lower.proofs.Words.{map_is, known, piece_is, piece_refused, ◌then◌, pair, stops, past}
use Rattle.lower.proofs.instruction.call_map.Goals as goal

pub returns-then-n-eq0 : goal.returns-then-n-eq0
unfolding opcode operands_of
returns-then-n-eq0 c =
    rw (← c.count_in-n.ensures) (none_put (no_first c.args.payload.now 16 c.count_in-n.result _ c.if-n-eq0.true))

pub returns-in_err-put_scratch : goal.returns-in_err-put_scratch
unfolding opcode operands_of
returns-in_err-put_scratch c =
    let f = frame_in c.args.frame in
    let a = c.operand_in-a.result in
    rw (← c.count_in-n.ensures) (passed_on c.from_residual.ensures.1 (past _ (past _ (stops (map_is _) (past _ (piece_refused c.put_scratch.ensures c.in_err-put_scratch.was) ∙ addr_parts f c.args.j 2 a))) ∙ first_is c.args.payload.now 16 c.count_in-n.result _ c.operand_in-a.ensures c.if-n-eq0.false))

pub returns-in_err-take_addr : goal.returns-in_err-take_addr
unfolding opcode operands_of
returns-in_err-take_addr c =
    let f = frame_in c.args.frame in
    let a = c.operand_in-a.result in
    rw (← c.count_in-n.ensures) (passed_on c.from_residual-in_err-take_addr.ensures.1 (past _ (past _ (stops (map_is _) (stops (piece_is c.put_scratch.ensures c.in_ok-put_scratch.was) (piece_refused c.take_addr.ensures c.in_err-take_addr.was) ∙ addr_parts f c.args.j 2 a))) ∙ first_is c.args.payload.now 16 c.count_in-n.result _ c.operand_in-a.ensures c.if-n-eq0.false))

pub returns-in_err-keep : goal.returns-in_err-keep
unfolding opcode operands_of call insn opcode_of one
returns-in_err-keep c =
    let f = frame_in c.args.frame in
    let a = c.operand_in-a.result in
    rw (← c.count_in-n.ensures, ← c.result_in.ensures)
    (passed_on c.from_residual-in_err-keep.ensures.1 (stops (pair (map_is _) (piece_is c.put_scratch.ensures c.in_ok-put_scratch.was) (piece_is c.take_addr.ensures c.in_ok-take_addr.was) (addr_parts f c.args.j 2 a) then known c.plain.ensures) (piece_refused c.keep.ensures c.in_err-keep.was) ∙ first_is c.args.payload.now 16 c.count_in-n.result _ c.operand_in-a.ensures c.if-n-eq0.false))

pub returns : goal.returns
unfolding opcode operands_of call insn opcode_of one chain
returns c =
    let f = frame_in c.args.frame in
    let a = c.operand_in-a.result in
    rw (← c.count_in-n.ensures, ← c.result_in.ensures)
    (along ((pair (map_is _) (piece_is c.put_scratch.ensures c.in_ok-put_scratch.was) (piece_is c.take_addr.ensures c.in_ok-take_addr.was) (addr_parts f c.args.j 2 a) then known c.plain.ensures then piece_is c.keep.ensures c.in_ok-keep.was).same ∙ first_is c.args.payload.now 16 c.count_in-n.result _ c.operand_in-a.ensures c.if-n-eq0.false) c.pieces.ensures)
