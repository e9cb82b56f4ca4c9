-- `set_instruction` writes the eight pieces of an instruction.
use mathlib.Core.Path.{ap, ◌∙◌}
use native.Mathlib.Omega.{arith}
use mir.Syntax.{w32}
use Rattle.wire.specs.Le.{store}
use Rattle.ir.specs.Operands.{list_of}
use Rattle.operand.proofs.Pieces.{byte, number, signed, ◌▸◌}
use Rattle.operand.proofs.OperandBytes.{operands}
use Rattle.payloadwriter.proofs.Pieces.{instruction_pieces}
use Rattle.payloadwriter.proofs.set_instruction.Goals as goal

pub returns : goal.returns
returns c =
    let n = c.count-count in
    let f = c.args.f in
    let os = list_of c.args.list in
    (number w32 c.args.res c.put_u32.ensures
    ▸ byte f.code (omega arith) c.put_u8.ensures
    ▸ byte f.small (omega arith) c.put_u8-2.ensures
    ▸ byte n.result (omega (arith, n.type_inv)) c.put_u8-3.ensures
    ▸ byte 0 (omega arith) c.put_u8-4.ensures
    ▸ signed w32 f.offset (record { sfits = omega arith }) c.put_i32.ensures
    ▸ number w32 f.number c.put_u32-2.ensures
    ▸ operands os c.put_operands.ensures).left (omega (arith, c.requires))
    ∙ ap (store c.args.b.now c.args.at) (instruction_pieces c.args.res f n.result os n.ensures)
