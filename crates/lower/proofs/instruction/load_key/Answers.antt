-- LoadKey.
use mathlib.Core.Path.{◌∙◌}
use mathlib.Core.List.{[], ◌∷◌}
use lib.IntN.{pos}
use Rattle.insn.specs.Layout.{insn_of}
use Rattle.insn.specs.declared.form.Size.TheVariants.{Dw}
use Rattle.insn.specs.declared.form.Form.TheVariants.{Ldx}
use Rattle.lower.specs.Op.{plain, insn}
use Rattle.lower.specs.Payload.{operands_of}
use Rattle.lower.specs.Instruction.{opcode}
use Rattle.lower.specs.Step.{ops_in, words}
use Rattle.lower.proofs.Counts.{first_is, no_first}
use Rattle.lower.proofs.Compose.{along, none_put, passed_on}
use Rattle.lower.proofs.Pieces.{key_load}
use Rattle.lower.proofs.Words.{Are, word_is_lem, word_refused, ◌then◌, stops, past}
use Rattle.lower.proofs.instruction.load_key.Goals as goal

pub returns-then-n-eq0 : goal.returns-then-n-eq0
unfolding opcode operands_of
returns-then-n-eq0 c =
    rw (← c.count_in-n.ensures) (none_put (no_first c.args.payload.now 16 c.count_in-n.result _ c.if-n-eq0.true))

pub returns-in_err-a : goal.returns-in_err-a
unfolding opcode operands_of
returns-in_err-a c =
    rw (← c.count_in-n.ensures) (passed_on c.from_residual.ensures.1 (past _ (past _ (word_refused (c.load_word.ensures) c.in_err-a.was)) ∙ first_is c.args.payload.now 16 c.count_in-n.result _ c.operand_in.ensures c.if-n-eq0.false))

pub returns-in_err-c : goal.returns-in_err-c
unfolding opcode operands_of words ops_in
returns-in_err-c c =
    let read : Are (plain (insn_of c.word-b.result) ∷ []) (insn (Ldx Dw) 0 1 (pos 0) (pos 0)) = record { same = key_load c.word-b.result c.word-b.ensures } in
    rw (← c.count_in-n.ensures, ← c.result_in.ensures)
    (passed_on c.from_residual-in_err-c.ensures.1 (stops (word_is_lem (c.load_word.ensures) c.in_ok-a.was then read) (word_refused (c.keep_word.ensures) c.in_err-c.was) ∙ first_is c.args.payload.now 16 c.count_in-n.result _ c.operand_in.ensures c.if-n-eq0.false))

pub returns : goal.returns
unfolding opcode operands_of words ops_in
returns c =
    let read : Are (plain (insn_of c.word-b.result) ∷ []) (insn (Ldx Dw) 0 1 (pos 0) (pos 0)) = record { same = key_load c.word-b.result c.word-b.ensures } in
    rw (← c.count_in-n.ensures, ← c.result_in.ensures)
    (along ((word_is_lem (c.load_word.ensures) c.in_ok-a.was then read then word_is_lem (c.keep_word.ensures) c.in_ok-c.was).same ∙ first_is c.args.payload.now 16 c.count_in-n.result _ c.operand_in.ensures c.if-n-eq0.false) c.words.ensures)
