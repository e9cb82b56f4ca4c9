-- `keep` is the word alone.
use mathlib.Core.Path.{◌∙◌}
use Rattle.lower.proofs.piece.keep.Goals as goal

pub returns : goal.returns
returns c = c.single.ensures ∙ c.keep_word.ensures
