-- `cell` is the cell of the variable's index.
use mathlib.Core.Path.{ap, ◌∙◌}
use Rattle.frame.specs.Cell.{cell_at}
use Rattle.frame.proofs.Hints.{guessed_cell}
use Rattle.frame.proofs.hint.Frame.cell.Goals as goal

pub returns : goal.returns
returns c = c.cell_by_index.ensures ∙ ap (cell_at _) c.index.ensures ∙ guessed_cell _ _ _
