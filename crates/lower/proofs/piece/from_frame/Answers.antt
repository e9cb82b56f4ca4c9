-- `from_frame` is a MOV of R10.
use Rattle.insn.specs.Form.{opcode_of}
use Rattle.lower.specs.Op.{insn}
use Rattle.lower.specs.Operand.{move}
use Rattle.lower.proofs.piece.from_frame.Goals as goal

pub returns : goal.returns
unfolding move insn opcode_of
returns c = rw c.word.ensures
