-- Binary.
use mathlib.Core.Path.{refl, sym, ap, ◌∙◌}
use mir.Syntax.{w64}
use Rattle.ir.specs.declared.Operand.TheVariants.{Immediate}
use Rattle.frame.specs.Lent.{frame_in}
use Rattle.wire.proofs.Sign.{back}
use Rattle.lower.specs.Instruction.{opcode, operate}
use Rattle.lower.specs.Payload.{operands_of}
use Rattle.lower.specs.Step.{ops_in, words}
use Rattle.lower.proofs.Counts.{two_are, not_two}
use Rattle.lower.proofs.Compose.{◌▹◌, along, none_put, passed_on}
use Rattle.lower.proofs.Words.{word_is_lem, word_refused, past}
use Rattle.lower.proofs.instruction.binary.Goals as goal

pub returns-then-n-ne2 : goal.returns-then-n-ne2
unfolding opcode operands_of
returns-then-n-ne2 c =
    rw (← c.count_in-n.ensures) (none_put (not_two c.args.payload.now 16 c.count_in-n.result _ c.if-n-ne2.true))

pub returns-in_err-a : goal.returns-in_err-a
unfolding opcode operands_of
returns-in_err-a c =
    rw (← c.count_in-n.ensures) (passed_on c.from_residual.ensures.1 (past _ (past _ (word_refused (c.load_word.ensures) c.in_err-a.was)) ∙ two_are c.args.payload.now 16 c.count_in-n.result _ c.operand_in.ensures refl c.if-n-ne2.false))

pub returns-in-Immediate : goal.returns-in-Immediate
unfolding opcode operands_of words ops_in
returns-in-Immediate c =
    let f = frame_in c.args.frame in
    rw (← c.count_in-n.ensures, ← c.result_in.ensures)
    (along (((word_is_lem (c.load_word.ensures) c.in_ok-a.was).same ▹ ap (operate f c.args.op) (ap Immediate (back w64 c.in-Immediate.z c.in-Immediate.known_told-in-Immediate-1-own.given.0.1) ∙ sym c.in-Immediate.is) ▹ refl) ∙ two_are c.args.payload.now 16 c.count_in-n.result _ c.operand_in.ensures c.operand_in-2.ensures c.if-n-ne2.false) c.by_constant.ensures)

pub returns-in-Var : goal.returns-in-Var
unfolding opcode operands_of words ops_in
returns-in-Var c =
    let f = frame_in c.args.frame in
    rw (← c.count_in-n.ensures, ← c.result_in-in-Var.ensures)
    (along (((word_is_lem (c.load_word.ensures) c.in_ok-a.was).same ▹ ap (operate f c.args.op) (sym c.in-Var.is) ▹ refl) ∙ two_are c.args.payload.now 16 c.count_in-n.result _ c.operand_in.ensures c.operand_in-2.ensures c.if-n-ne2.false) c.by_variable.ensures)
