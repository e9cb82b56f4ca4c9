-- The frame of lent variables and lent hints.
use Rattle.std.specs.Prelude.{ℕ}
use Rattle.frame.specs.Cell as cell
use Rattle.frame.specs.Hint.{index_by, frame_by}
use Rattle.frame.specs.declared.hint.Frame.{Frame}

abbrev pub index_in : Frame → ℕ → ℕ
index_in f v = index_by f.variables.now f.hints.now v

abbrev pub frame_in : Frame → cell.Frame
frame_in f = frame_by f.variables.now f.hints.now
