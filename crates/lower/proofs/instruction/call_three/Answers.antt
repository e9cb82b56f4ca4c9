-- A helper that takes three operands.
use mathlib.Core.Path.{ap, ◌∙◌}
use mathlib.Core.List.{[], ◌∷◌}
use Rattle.insn.specs.Layout.{insn_of}
use Rattle.lower.specs.Op.{plain}
use Rattle.frame.specs.Lent.{frame_in}
use Rattle.lower.specs.Operand.{call, load}
use Rattle.lower.specs.Step.{ops_in, words}
use Rattle.lower.proofs.Compose.{along, passed_on}
use Rattle.lower.proofs.Words.{Are, word_is_lem, word_refused, ◌then◌, stops, past}
use Rattle.lower.proofs.instruction.call_three.Goals as goal

pub returns-in_err-a : goal.returns-in_err-a
returns-in_err-a c =
    let f = frame_in c.args.frame in
    passed_on c.from_residual.ensures.1 (past _ (past _ (past _ (past _ (word_refused (c.load_word.ensures ∙ ap (load f 1) c.operand_in.ensures) c.in_err-a.was)))))

pub returns-in_err-b : goal.returns-in_err-b
returns-in_err-b c =
    let f = frame_in c.args.frame in
    passed_on c.from_residual-in_err-b.ensures.1 (past _ (past _ (past _ (stops (word_is_lem (c.load_word.ensures ∙ ap (load f 1) c.operand_in.ensures) c.in_ok-a.was) (word_refused (c.load_word-2.ensures ∙ ap (load f 2) c.operand_in-2.ensures) c.in_err-b.was)))))

pub returns-in_err-c : goal.returns-in_err-c
returns-in_err-c c =
    let f = frame_in c.args.frame in
    passed_on c.from_residual-in_err-c.ensures.1 (past _ (past _ (stops (word_is_lem (c.load_word.ensures ∙ ap (load f 1) c.operand_in.ensures) c.in_ok-a.was then word_is_lem (c.load_word-2.ensures ∙ ap (load f 2) c.operand_in-2.ensures) c.in_ok-b.was) (word_refused (c.load_word-3.ensures ∙ ap (load f 3) c.operand_in-3.ensures) c.in_err-c.was))))

pub returns-in_err-e : goal.returns-in_err-e
unfolding words ops_in
returns-in_err-e c =
    let f = frame_in c.args.frame in
    let called : Are (plain (insn_of c.call_word-d.result) ∷ []) (call c.args.id) = record { same = c.call_word-d.ensures } in
    rw (← c.result_in.ensures)
    (passed_on c.from_residual-in_err-e.ensures.1 (stops (word_is_lem (c.load_word.ensures ∙ ap (load f 1) c.operand_in.ensures) c.in_ok-a.was then word_is_lem (c.load_word-2.ensures ∙ ap (load f 2) c.operand_in-2.ensures) c.in_ok-b.was then word_is_lem (c.load_word-3.ensures ∙ ap (load f 3) c.operand_in-3.ensures) c.in_ok-c.was then called) (word_refused (c.keep_word.ensures) c.in_err-e.was)))

pub returns : goal.returns
unfolding words ops_in
returns c =
    let f = frame_in c.args.frame in
    let called : Are (plain (insn_of c.call_word-d.result) ∷ []) (call c.args.id) = record { same = c.call_word-d.ensures } in
    rw (← c.result_in.ensures)
    (along (word_is_lem (c.load_word.ensures ∙ ap (load f 1) c.operand_in.ensures) c.in_ok-a.was then word_is_lem (c.load_word-2.ensures ∙ ap (load f 2) c.operand_in-2.ensures) c.in_ok-b.was then word_is_lem (c.load_word-3.ensures ∙ ap (load f 3) c.operand_in-3.ensures) c.in_ok-c.was then called then word_is_lem (c.keep_word.ensures) c.in_ok-e.was).same c.words.ensures)
