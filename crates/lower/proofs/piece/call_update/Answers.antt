-- `call_update` is a MOV64 of 0 and a call.
use Rattle.wire.specs.Range.{fits32}
use Rattle.insn.specs.Form.{opcode_of}
use Rattle.lower.specs.Op.{insn, ◌▸◌}
use Rattle.lower.specs.Operand.{constant, call}
use Rattle.lower.specs.Step.{ops_of}
use Rattle.lower.proofs.piece.call_update.Goals as goal

pub returns : goal.returns
unfolding ops_of constant fits32 call insn opcode_of ◌▸◌
returns c = rw (c.word-flags.ensures, c.word-update.ensures)
