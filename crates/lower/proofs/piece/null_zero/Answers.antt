-- What NullCheck does where R0 is 0.
use Rattle.wire.specs.Range.{fits32}
use Rattle.insn.specs.Form.{opcode_of}
use Rattle.lower.specs.Op.{insn, ◌▸◌}
use Rattle.lower.specs.Operand.{constant}
use Rattle.lower.specs.Step.{ops_of, null_zero}
use Rattle.lower.proofs.piece.null_zero.Goals as goal

pub returns-then-condition : goal.returns-then-condition
unfolding ops_of null_zero constant fits32 insn opcode_of ◌▸◌
returns-then-condition c = rw (c.if-condition.true, c.jump_by.ensures, c.set_r0.ensures)

pub returns : goal.returns
unfolding ops_of null_zero constant fits32 insn opcode_of ◌▸◌
returns c = rw (c.if-condition.false, c.set_r0-2.ensures, c.jump_by-2.ensures)
