-- `load` is the word alone.
use mathlib.Core.Path.{◌∙◌}
use Rattle.lower.proofs.piece.load.Goals as goal

pub returns : goal.returns
returns c = c.single.ensures ∙ c.load_word.ensures
