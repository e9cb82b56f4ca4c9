-- `index` takes the guess where the variable stands there, and searches elsewhere.
use mathlib.Core.Path.{◌∙◌}
use Rattle.frame.specs.Hint.{guess}
use Rattle.frame.proofs.Hints.{guessed, not_there, past_end}
use Rattle.frame.proofs.hint.Frame.index.Goals as goal
use Rattle.frame.proofs.hint.Frame.index.Goals.{else-guess-variables-via-then-guess-variables+else-v-variables, else-guess-variables-via-else-guess-variables}

pub returns-then-v-variables : goal.returns-then-v-variables
unfolding guess
returns-then-v-variables c =
    guessed c.args.self.variables.now c.args.self.hints.now c.args.v c.from-guess.ensures c.if-guess-variables.true c.if-v-variables.true

pub returns : goal.returns
unfolding guess
returns c =
    let vs = c.args.self.variables.now in
    let hs = c.args.self.hints.now in
    let g = c.from-guess.ensures in
    c.find.ensures ∙ elim c.else-guess-variables.branch [ else-guess-variables-via-then-guess-variables+else-v-variables w ↦ not_there vs hs c.args.v g w.if-guess-variables.true w.if-v-variables.false | else-guess-variables-via-else-guess-variables w ↦ past_end vs hs c.args.v g w.if-guess-variables.false ]
