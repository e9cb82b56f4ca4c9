-- `load_step` is an LDX from the cell, or a MOV64 of the immediate.
use mathlib.Core.Path.{◌∙◌}
use mir.Syntax.{w16, w64}
use Rattle.wire.proofs.Sign.{back}
use Rattle.insn.specs.Rfc.{size_field}
use Rattle.insn.specs.Form.{opcode_of}
use Rattle.lower.specs.Op.{insn}
use Rattle.lower.specs.Operand.{constant, load, on_cell}
use Rattle.lower.specs.Step.{step_of, one, with_constant}
use Rattle.lower.proofs.piece.load_step.Goals as goal

pub returns-in-Immediate : goal.returns-in-Immediate
unfolding load with_constant constant one insn opcode_of
returns-in-Immediate c = c.with_constant.ensures ∙ rw (c.in-Immediate.is, back w64 c.in-Immediate.z c.in-Immediate.known_told-1-own.given.0.1)

pub returns-in-Some : goal.returns-in-Some
unfolding step_of load on_cell insn opcode_of size_field
returns-in-Some c = rw (c.in-Var.is, ← c.cell.ensures, c.in-Some.is, back w16 c.in-Some.offset c.in-Some.known_told-in-Some-1-own.given.0.1)

pub returns-in-None : goal.returns-in-None
unfolding step_of load on_cell
returns-in-None c = rw (c.in-Var.is, ← c.cell.ensures, c.in-None.is)
