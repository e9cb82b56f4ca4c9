-- Store.
use mathlib.Core.Path.{refl, ◌∙◌}
use Rattle.lower.specs.Payload.{operands_of}
use Rattle.lower.specs.Instruction.{opcode}
use Rattle.lower.specs.Step.{ops_in, words}
use Rattle.lower.proofs.Counts.{two_are, not_two}
use Rattle.lower.proofs.Compose.{along, none_put, passed_on}
use Rattle.lower.proofs.Words.{word_is_lem, word_refused, ◌then◌, stops, past}
use Rattle.lower.proofs.instruction.store_value.Goals as goal

pub returns-then-n-ne2 : goal.returns-then-n-ne2
unfolding opcode operands_of
returns-then-n-ne2 c =
    rw (← c.count_in-n.ensures) (none_put (not_two c.args.payload.now 16 c.count_in-n.result _ c.if-n-ne2.true))

pub returns-in_err-a : goal.returns-in_err-a
unfolding opcode operands_of
returns-in_err-a c =
    rw (← c.count_in-n.ensures) (passed_on c.from_residual.ensures.1 (past _ (past _ (word_refused (c.load_word.ensures) c.in_err-a.was)) ∙ two_are c.args.payload.now 16 c.count_in-n.result _ c.operand_in.ensures refl c.if-n-ne2.false))

pub returns-in_err-b : goal.returns-in_err-b
unfolding opcode operands_of
returns-in_err-b c =
    rw (← c.count_in-n.ensures) (passed_on c.from_residual-in_err-b.ensures.1 (past _ (stops (word_is_lem (c.load_word.ensures) c.in_ok-a.was) (word_refused (c.load_word-2.ensures) c.in_err-b.was)) ∙ two_are c.args.payload.now 16 c.count_in-n.result _ c.operand_in.ensures c.operand_in-2.ensures c.if-n-ne2.false))

pub returns-in_err-c : goal.returns-in_err-c
unfolding opcode operands_of
returns-in_err-c c =
    rw (← c.count_in-n.ensures) (passed_on c.from_residual-in_err-c.ensures.1 (stops (word_is_lem (c.load_word.ensures) c.in_ok-a.was then word_is_lem (c.load_word-2.ensures) c.in_ok-b.was) (word_refused (c.store.ensures) c.in_err-c.was) ∙ two_are c.args.payload.now 16 c.count_in-n.result _ c.operand_in.ensures c.operand_in-2.ensures c.if-n-ne2.false))

pub returns : goal.returns
unfolding opcode operands_of words ops_in
returns c =
    rw (← c.count_in-n.ensures) (along ((word_is_lem (c.load_word.ensures) c.in_ok-a.was then word_is_lem (c.load_word-2.ensures) c.in_ok-b.was then word_is_lem (c.store.ensures) c.in_ok-c.was).same ∙ two_are c.args.payload.now 16 c.count_in-n.result _ c.operand_in.ensures c.operand_in-2.ensures c.if-n-ne2.false) c.words.ensures)
