-- What is promised of a run of code b that has come to slot s: it follows a path of the screen.
use Rattle.std.specs.Prelude.{ℕ, ◌<◌, true, ◌≡◌, ◌↔◌, List}
use Rattle.shape.specs.Code.{slots, start}
use Rattle.paths.specs.Registers.{Regs}
use Rattle.paths.specs.Way.{Way}
use Rattle.machine.specs.Turn.{Effect}
use Rattle.sound.specs.Written.{Written}

-- the readable registers are exactly those that the run has written
pub record Tells (k : Regs) (h : List Effect) : Type 0 where
  pub at : (r : ℕ) → (k r ≡ true) ↔ Written r h

-- a path leads there, with registers that tell what the run has written
pub record OnWay (b : List ℕ) (h : List Effect) (s : ℕ) : Type 0 where
  pub mask : Regs
  pub way : Way b s mask
  pub tells : Tells mask h
  pub inside : s < slots b
  pub starts : start b s ≡ true
