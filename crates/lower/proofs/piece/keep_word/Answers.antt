-- `keep_word` is an STX to the cell.
use mir.Syntax.{w16}
use Rattle.wire.proofs.Sign.{back}
use Rattle.insn.specs.Rfc.{size_field}
use Rattle.insn.specs.Form.{opcode_of}
use Rattle.lower.specs.Op.{insn}
use Rattle.lower.specs.Operand.{keep, on_cell}
use Rattle.lower.specs.Step.{ops_in, words, word_is}
use Rattle.lower.proofs.piece.keep_word.Goals as goal

pub returns-in-Some : goal.returns-in-Some
unfolding word_is words ops_in keep on_cell insn opcode_of size_field
returns-in-Some c = rw (c.word.ensures, ← c.cell.ensures, c.in-Some.is, back w16 c.in-Some.offset c.in-Some.known_told-1-own.given.0.1)

pub returns-in-None : goal.returns-in-None
unfolding word_is keep on_cell
returns-in-None c = rw (← c.cell.ensures, c.in-None.is)
