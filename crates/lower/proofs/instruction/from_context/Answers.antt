-- LoadCtx and LoadPacket.
use mathlib.Core.Path.{ap, ◌∙◌}
use mir.Syntax.{w32}
use mir.ValLaws.{to_z-of_z}
use Rattle.lower.specs.Instruction.{from_context}
use Rattle.lower.specs.Step.{ops_in, words}
use Rattle.lower.proofs.Compose.{along, passed_on}
use Rattle.lower.proofs.Pieces.{context_load}
use Rattle.lower.proofs.Words.{word_is_lem, word_refused, ◌then◌, stops, past}
use Rattle.lower.proofs.instruction.from_context.Goals as goal

pub returns-in_err-a : goal.returns-in_err-a
unfolding from_context
returns-in_err-a c =
    passed_on c.from_residual.ensures.1 (past _ (word_refused (c.load_context.ensures ∙ ap (context_load c.args.size) (to_z-of_z w32 c.args.offset c.ranges.offset)) c.in_err-a.was))

pub returns-in_err-b : goal.returns-in_err-b
unfolding from_context
returns-in_err-b c =
    rw (← c.result_in.ensures) (passed_on c.from_residual-in_err-b.ensures.1 (stops (word_is_lem (c.load_context.ensures ∙ ap (context_load c.args.size) (to_z-of_z w32 c.args.offset c.ranges.offset)) c.in_ok-a.was) (word_refused (c.keep_word.ensures) c.in_err-b.was)))

pub returns : goal.returns
unfolding from_context words ops_in
returns c =
    rw (← c.result_in.ensures) (along (word_is_lem (c.load_context.ensures ∙ ap (context_load c.args.size) (to_z-of_z w32 c.args.offset c.ranges.offset)) c.in_ok-a.was then word_is_lem (c.keep_word.ensures) c.in_ok-b.was).same c.words.ensures)
