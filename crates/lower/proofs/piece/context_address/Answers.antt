-- `context_address` is a MOV of R6 and an ADD of the offset.
use mir.Syntax.{w32}
use Rattle.wire.proofs.Sign.{back}
use Rattle.insn.specs.Rfc.{operation_of}
use Rattle.insn.specs.Form.{opcode_of}
use Rattle.lower.specs.Op.{insn, ◌▸◌}
use Rattle.lower.specs.Operand.{move, add}
use Rattle.lower.specs.Step.{ops_of}
use Rattle.lower.proofs.piece.context_address.Goals as goal

pub returns : goal.returns
unfolding ops_of move add insn opcode_of operation_of ◌▸◌
returns c =
    rw (c.word-from.ensures, c.word-plus.ensures, back w32 c.args.offset c.ranges.offset.sfits)
