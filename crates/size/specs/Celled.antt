-- The variables of an instruction have cells.
use Rattle.std.specs.Prelude.{◌≡◌, ℕ, ℤ, Some}
use mathlib.Core.List.{List, Memᴰ}
use Rattle.ir.specs.declared.Operand.{Operand}
use Rattle.ir.specs.declared.Operand.TheVariants.{Var}
use Rattle.frame.specs.Cell.{Frame}

-- v has a cell in f
pub record HasCell (f : Frame) (v : ℕ) : Type 0 where
  pub offset : ℤ
  pub at : f.cell v ≡ Some offset

-- the result and every variable among the operands have one
pub record Celled (f : Frame) (result : ℕ) (l : List Operand) : Type 0 where
  pub kept : HasCell f result
  pub read : (v : ℕ) → Memᴰ (Var v) l → HasCell f v
