-- The instructions of a block and the block itself, from byte to byte of a unit: their variables have cells; what they take.
use Rattle.std.specs.Prelude.{◌≡◌, Bool, ℕ, ◌+◌, ◌*◌, ◌≤◌, Ok, Result}
use mathlib.Core.List.{List, Memᴰ}
use Rattle.ir.specs.Operands.{list_of}
use Rattle.ir.specs.declared.Operand.TheVariants as O
use Rattle.ir.specs.declared.Terminator.{Terminator}
use Rattle.ir.specs.declared.Terminator.TheVariants as T
use Rattle.unitfile.specs.Unit.{PlacedInstruction, BasicBlock}
use Rattle.recordparts.specs.Stands.{TerminatorAt}
use Rattle.frame.specs.Cell.{Frame}
use Rattle.survey.specs.Standing.{Chain}
use Rattle.size.specs.Celled.{HasCell, Celled}
use Rattle.layout.specs.Layout.{Context, instructions}
use Rattle.layout.specs.Inner.{block_by}
use Rattle.passes.specs.Tables.{size_of}
use Rattle.lower.specs.declared.Reason.{Reason}

-- ---- the variables have cells

-- those of instructions
pub record RowCelled (f : Frame) (is : List PlacedInstruction) : Type 0 where
  pub each : (p : PlacedInstruction) → Memᴰ p is → Celled f p.instruction.result (list_of p.instruction.operands)

-- that of a terminator
pub record EndCelled (f : Frame) (t : Terminator) : Type 0 where
  pub returned : (v : ℕ) → t ≡ T.Return (O.Var v) → HasCell f v
  pub tested : (v to other : ℕ) → t ≡ T.Branch (O.Var v) to other → HasCell f v

-- those of a block
pub record BlockCelled (f : Frame) (k : BasicBlock) : Type 0 where
  pub row : RowCelled f k.instructions
  pub end : EndCelled f k.terminator

-- ---- a block's instructions

-- the instructions that stand from a byte to the byte end; each of their variables has a cell
pub record Row (f : Frame) (b : List ℕ) (end at : ℕ) : Type 0 where
  pub instructions : List PlacedInstruction
  pub chain : Chain b end at instructions
  pub cells : RowCelled f instructions

-- what they take, whatever the scratch position: 13 slots and one relocation at most for each, which has 4 bytes at least
pub record RowSized (c : Context) (b : List ℕ) (end first : ℕ) (r : Result (ℕ × ℕ) (ℕ × Reason)) : Type 0 where
  pub row : Row c.frame b end first
  pub size : (j : ℕ) → r ≡ size_of (instructions c j row.instructions)
  pub few : (n m : ℕ) → r ≡ Ok (n, m) → (4 * n + 13 * first ≤ 13 * end) × (4 * m + first ≤ end)

-- ---- a block

-- the block whose instructions stand from a byte to the byte end, where its terminator stands; each of its variables has a cell
pub record BlockIn (f : Frame) (b : List ℕ) (first end : ℕ) (k : BasicBlock) : Type 0 where
  pub ending : k.ending ≡ end
  pub chain : Chain b end first k.instructions
  pub ends : TerminatorAt b end k.terminator
  pub cells : BlockCelled f k

-- there is one
pub record SomeBlock (f : Frame) (b : List ℕ) (first end : ℕ) : Type 0 where
  pub block : BasicBlock
  pub stands : BlockIn f b first end block

-- what it takes by whether it is emitted, whatever the scratch position
pub record BlockSized (c : Context) (t : Bool) (first end : ℕ) (k : BasicBlock) (r : Result (ℕ × ℕ) (ℕ × Reason)) : Type 0 where
  pub size : (j : ℕ) → r ≡ size_of (block_by c t j k)
  pub few : (n m : ℕ) → r ≡ Ok (n, m) → (4 * n + 13 * first ≤ 13 * end + 52) × (4 * m + first ≤ end + 4)

-- of whichever block stands there
pub record BlockTakes (c : Context) (b : List ℕ) (t : Bool) (first end : ℕ) (r : Result (ℕ × ℕ) (ℕ × Reason)) : Type 0 where
  pub each : (k : BasicBlock) → BlockIn c.frame b first end k → BlockSized c t first end k r
