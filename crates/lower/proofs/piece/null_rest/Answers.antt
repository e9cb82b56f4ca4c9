-- The rest of NullCheck.
use Rattle.wire.specs.Range.{fits32}
use Rattle.insn.specs.Form.{opcode_of}
use Rattle.lower.specs.Op.{insn}
use Rattle.lower.specs.Operand.{constant}
use Rattle.lower.specs.Step.{ops_of, null_rest}
use Rattle.lower.proofs.piece.null_rest.Goals as goal

pub returns-then-condition : goal.returns-then-condition
unfolding ops_of null_rest
returns-then-condition c = rw c.if-condition.true

pub returns : goal.returns
unfolding ops_of null_rest constant fits32 insn opcode_of
returns c = rw (c.if-condition.false, c.set_r0.ensures)
