-- `set_terminator` writes each form.
use native.Mathlib.Omega.{arith}
use mir.Syntax.{w32}
use Rattle.payloadwriter.specs.Payloads.{terminator_bytes}
use Rattle.payloadwriter.proofs.Lengths.{return_length, jump_length, branch_length}
use Rattle.operand.proofs.Pieces.{byte, number, ◌▸◌}
use Rattle.operand.proofs.OperandBytes.{operand}
use Rattle.payloadwriter.proofs.set_terminator.Goals as goal

pub returns-in-Return : goal.returns-in-Return
unfolding terminator_bytes
returns-in-Return c =
    let t = c.in-Return.is in
    let n = return_length t in
    rw t ((byte 0 (omega arith) c.put_u8.ensures ▸ operand _ c.put_operand.ensures).left (omega arith))

pub returns-in-Jump : goal.returns-in-Jump
unfolding terminator_bytes
returns-in-Jump c =
    let t = c.in-Jump.is in
    let n = jump_length t in
    rw t ((byte 1 (omega arith) c.put_u8-in-Jump.ensures ▸ number w32 _ c.put_u32.ensures).left (omega arith))

pub returns-in-Branch : goal.returns-in-Branch
unfolding terminator_bytes
returns-in-Branch c =
    let t = c.in-Branch.is in
    let n = branch_length t in
    rw t
    ((byte 2 (omega arith) c.put_u8-in-Branch.ensures
    ▸ operand _ c.put_operand-in-Branch.ensures
    ▸ number w32 _ c.put_u32-in-Branch.ensures
    ▸ number w32 _ c.put_u32-in-Branch-2.ensures).left (omega arith))
