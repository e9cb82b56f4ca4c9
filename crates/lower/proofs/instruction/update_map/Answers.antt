-- UpdateMap.
use mathlib.Core.Path.{ap, ◌∙◌}
use Prim.Native.Nat.{ℕ}
use lib.IntN.{pos}
use Rattle.frame.specs.Lent.{frame_in}
use Rattle.lower.specs.Operand.{addr, constant, call}
use Rattle.lower.specs.Payload.{operands_of}
use Rattle.lower.specs.Instruction.{opcode}
use Rattle.lower.specs.Step.{chain}
use Rattle.lower.proofs.Counts.{two_are, not_two}
use Rattle.lower.proofs.Compose.{along, none_put, passed_on}
use Rattle.lower.proofs.Pieces.{addr_parts}
use Rattle.lower.proofs.Words.{map_is, known, piece_is, piece_refused, ◌then◌, pair, split, stops, past}
use Rattle.lower.proofs.instruction.update_map.Goals as goal

pub returns-then-n-ne2 : goal.returns-then-n-ne2
unfolding opcode operands_of
returns-then-n-ne2 c =
    rw (← c.count_in-n.ensures) (none_put (not_two c.args.payload.now 16 c.count_in-n.result _ c.if-n-ne2.true))

pub returns-in_err-put_scratch : goal.returns-in_err-put_scratch
unfolding opcode operands_of
returns-in_err-put_scratch c =
    let f = frame_in c.args.frame in
    let a = c.operand_in-a.result in
    rw (← c.count_in-n.ensures) (passed_on c.from_residual.ensures.1 (past _ (past _ (past _ (past _ (stops (map_is _) (past _ (piece_refused c.put_scratch.ensures c.in_err-put_scratch.was) ∙ addr_parts f c.args.j 2 a))))) ∙ two_are c.args.payload.now 16 c.count_in-n.result _ c.operand_in-a.ensures c.operand_in-b.ensures c.if-n-ne2.false))

pub returns-in_err-take_addr : goal.returns-in_err-take_addr
unfolding opcode operands_of
returns-in_err-take_addr c =
    let f = frame_in c.args.frame in
    let a = c.operand_in-a.result in
    rw (← c.count_in-n.ensures) (passed_on c.from_residual-in_err-take_addr.ensures.1 (past _ (past _ (past _ (past _ (stops (map_is _) (stops (piece_is c.put_scratch.ensures c.in_ok-put_scratch.was) (piece_refused c.take_addr.ensures c.in_err-take_addr.was) ∙ addr_parts f c.args.j 2 a))))) ∙ two_are c.args.payload.now 16 c.count_in-n.result _ c.operand_in-a.ensures c.operand_in-b.ensures c.if-n-ne2.false))

pub returns-in_err-put_scratch-2 : goal.returns-in_err-put_scratch-2
unfolding opcode operands_of
returns-in_err-put_scratch-2 c =
    let f = frame_in c.args.frame in
    let a = c.operand_in-a.result in
    let b = c.operand_in-b.result in
    let k = c.next-k in
    let value = addr_parts f k.result 3 b ∙ ap (λ (j : ℕ). addr f j 3 b) k.ensures in
    rw (← c.count_in-n.ensures) (passed_on c.from_residual-in_err-put_scratch-2.ensures.1 (past _ (past _ (past _ (stops (pair (map_is _) (piece_is c.put_scratch.ensures c.in_ok-put_scratch.was) (piece_is c.take_addr.ensures c.in_ok-take_addr.was) (addr_parts f c.args.j 2 a)) (past _ (piece_refused c.put_scratch-2.ensures c.in_err-put_scratch-2.was) ∙ value)))) ∙ two_are c.args.payload.now 16 c.count_in-n.result _ c.operand_in-a.ensures c.operand_in-b.ensures c.if-n-ne2.false))

pub returns-in_err-take_addr-2 : goal.returns-in_err-take_addr-2
unfolding opcode operands_of
returns-in_err-take_addr-2 c =
    let f = frame_in c.args.frame in
    let a = c.operand_in-a.result in
    let b = c.operand_in-b.result in
    let k = c.next-k in
    let value = addr_parts f k.result 3 b ∙ ap (λ (j : ℕ). addr f j 3 b) k.ensures in
    rw (← c.count_in-n.ensures) (passed_on c.from_residual-in_err-take_addr-2.ensures.1 (past _ (past _ (past _ (stops (pair (map_is _) (piece_is c.put_scratch.ensures c.in_ok-put_scratch.was) (piece_is c.take_addr.ensures c.in_ok-take_addr.was) (addr_parts f c.args.j 2 a)) (stops (piece_is c.put_scratch-2.ensures c.in_ok-put_scratch-2.was) (piece_refused c.take_addr-2.ensures c.in_err-take_addr-2.was) ∙ value)))) ∙ two_are c.args.payload.now 16 c.count_in-n.result _ c.operand_in-a.ensures c.operand_in-b.ensures c.if-n-ne2.false))

pub returns-in_err-keep : goal.returns-in_err-keep
unfolding opcode operands_of
returns-in_err-keep c =
    let f = frame_in c.args.frame in
    let a = c.operand_in-a.result in
    let b = c.operand_in-b.result in
    let k = c.next-k in
    let value = addr_parts f k.result 3 b ∙ ap (λ (j : ℕ). addr f j 3 b) k.ensures in
    rw (← c.count_in-n.ensures, ← c.result_in.ensures)
    (passed_on c.from_residual-in_err-keep.ensures.1 (stops (split (constant 4 (pos 0)) (call 2) (pair (pair (map_is _) (piece_is c.put_scratch.ensures c.in_ok-put_scratch.was) (piece_is c.take_addr.ensures c.in_ok-take_addr.was) (addr_parts f c.args.j 2 a)) (piece_is c.put_scratch-2.ensures c.in_ok-put_scratch-2.was) (piece_is c.take_addr-2.ensures c.in_ok-take_addr-2.was) value) (known c.call_update.ensures)) (piece_refused c.keep.ensures c.in_err-keep.was) ∙ two_are c.args.payload.now 16 c.count_in-n.result _ c.operand_in-a.ensures c.operand_in-b.ensures c.if-n-ne2.false))

pub returns : goal.returns
unfolding opcode operands_of chain
returns c =
    let f = frame_in c.args.frame in
    let a = c.operand_in-a.result in
    let b = c.operand_in-b.result in
    let k = c.next-k in
    let value = addr_parts f k.result 3 b ∙ ap (λ (j : ℕ). addr f j 3 b) k.ensures in
    rw (← c.count_in-n.ensures, ← c.result_in.ensures)
    (along ((split (constant 4 (pos 0)) (call 2) (pair (pair (map_is _) (piece_is c.put_scratch.ensures c.in_ok-put_scratch.was) (piece_is c.take_addr.ensures c.in_ok-take_addr.was) (addr_parts f c.args.j 2 a)) (piece_is c.put_scratch-2.ensures c.in_ok-put_scratch-2.was) (piece_is c.take_addr-2.ensures c.in_ok-take_addr-2.was) value) (known c.call_update.ensures) then piece_is c.keep.ensures c.in_ok-keep.was).same ∙ two_are c.args.payload.now 16 c.count_in-n.result _ c.operand_in-a.ensures c.operand_in-b.ensures c.if-n-ne2.false) c.pieces.ensures)
