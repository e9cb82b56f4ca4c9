-- Binary by a variable.
use mathlib.Core.List.{[], ◌∷◌}
use Rattle.frame.specs.Lent.{frame_in}
use Rattle.insn.specs.Layout.{insn_of}
use Rattle.lower.specs.Op.{plain}
use Rattle.lower.specs.Instruction.{operate}
use Rattle.lower.specs.Step.{ops_in, words}
use Rattle.lower.proofs.Compose.{along, passed_on}
use Rattle.lower.proofs.Pieces.{operate_register}
use Rattle.lower.proofs.Words.{Are, itself, word_is_lem, word_refused, ◌then◌, stops, past}
use Rattle.lower.proofs.instruction.by_variable.Goals as goal

pub returns-in_err-b : goal.returns-in_err-b
unfolding operate
returns-in_err-b c =
    passed_on c.from_residual.ensures.1 (past _ (stops (itself c.args.a) (past _ (word_refused (c.load_word.ensures) c.in_err-b.was))))

pub returns-in_err-d : goal.returns-in_err-d
unfolding operate words ops_in
returns-in_err-d c =
    let f = frame_in c.args.frame in
    let register : Are (plain (insn_of c.word-c.result) ∷ []) _ = record { same = operate_register f c.args.op c.word-c.result c.word-c.ensures c.alu64_reg.ensures } in
    passed_on c.from_residual-in_err-d.ensures.1 (stops (itself c.args.a then (word_is_lem (c.load_word.ensures) c.in_ok-b.was then register)) (word_refused (c.keep_word.ensures) c.in_err-d.was))

pub returns : goal.returns
unfolding operate words ops_in
returns c =
    let f = frame_in c.args.frame in
    let register : Are (plain (insn_of c.word-c.result) ∷ []) _ = record { same = operate_register f c.args.op c.word-c.result c.word-c.ensures c.alu64_reg.ensures } in
    along (itself c.args.a then (word_is_lem (c.load_word.ensures) c.in_ok-b.was then register) then word_is_lem (c.keep_word.ensures) c.in_ok-d.was).same c.words.ensures
