-- A helper that takes no operands.
use mathlib.Core.List.{[], ◌∷◌}
use Rattle.insn.specs.Layout.{insn_of}
use Rattle.lower.specs.Op.{plain}
use Rattle.lower.specs.Operand.{call}
use Rattle.lower.specs.Step.{ops_in, words}
use Rattle.lower.proofs.Compose.{along, passed_on}
use Rattle.lower.proofs.Words.{Are, word_is_lem, word_refused, ◌then◌, stops}
use Rattle.lower.proofs.instruction.call_none.Goals as goal

pub returns-in_err-b : goal.returns-in_err-b
unfolding words ops_in
returns-in_err-b c =
    let called : Are (plain (insn_of c.call_word-a.result) ∷ []) (call c.args.id) = record { same = c.call_word-a.ensures } in
    passed_on c.from_residual.ensures.1 (stops called (word_refused (c.keep_word.ensures) c.in_err-b.was))

pub returns : goal.returns
unfolding words ops_in
returns c =
    let called : Are (plain (insn_of c.call_word-a.result) ∷ []) (call c.args.id) = record { same = c.call_word-a.ensures } in
    along (called then word_is_lem (c.keep_word.ensures) c.in_ok-b.was).same c.words.ensures
