-- Binary by a constant.
use mathlib.Core.Path.{◌∙◌}
use mir.Syntax.{w64}
use mir.ValLaws.{to_z-of_z}
use Rattle.frame.specs.Lent.{frame_in}
use Rattle.lower.specs.Step.{ops_in, words}
use Rattle.lower.proofs.Compose.{along, passed_on}
use Rattle.lower.proofs.Pieces.{operate_constant}
use Rattle.lower.proofs.Words.{itself, word_is_lem, word_refused, ◌then◌, stops, past}
use Rattle.lower.proofs.instruction.by_constant.Goals as goal

pub returns-in_err-b : goal.returns-in_err-b
returns-in_err-b c =
    let f = frame_in c.args.frame in
    passed_on c.from_residual.ensures.1 (past _ (stops (itself c.args.a) (word_refused (c.constant_word.ensures ∙ operate_constant f c.args.op c.alu64_imm.ensures (to_z-of_z w64 c.args.z c.ranges.z)) c.in_err-b.was)))

pub returns-in_err-c : goal.returns-in_err-c
returns-in_err-c c =
    let f = frame_in c.args.frame in
    passed_on c.from_residual-in_err-c.ensures.1 (stops (itself c.args.a then word_is_lem (c.constant_word.ensures ∙ operate_constant f c.args.op c.alu64_imm.ensures (to_z-of_z w64 c.args.z c.ranges.z)) c.in_ok-b.was) (word_refused (c.keep_word.ensures) c.in_err-c.was))

pub returns : goal.returns
unfolding words ops_in
returns c =
    let f = frame_in c.args.frame in
    along (itself c.args.a then word_is_lem (c.constant_word.ensures ∙ operate_constant f c.args.op c.alu64_imm.ensures (to_z-of_z w64 c.args.z c.ranges.z)) c.in_ok-b.was then word_is_lem (c.keep_word.ensures) c.in_ok-c.was).same c.words.ensures
