-- The operations of a unit: slot 0, then the emitted blocks in file order, instruction by instruction.
use Rattle.std.specs.Prelude.{ℕ, Bool, List, [], ◌∷◌, ◌++◌}
use Rattle.frame.specs.Cell.{Frame}
use Rattle.unitfile.specs.Unit.{PlacedInstruction, BasicBlock}
use Rattle.lower.specs.Op.{Op, Lowered, becomes, refused, slots_of}
use Rattle.lower.specs.Operand.{move}
use Rattle.lower.specs.Instruction.{instruction, scratch_after}
use Rattle.lower.specs.Terminator.{terminator}
use Rattle.lower.specs.declared.Reason.{Reason}

-- operations, or the place of the first record at fault and its reason
pub data Laid : Type 0 where
  laid : List Op → Laid
  refused_at : ℕ → Reason → Laid

-- what the record at a place becomes
unfoldable pub at : ℕ → Lowered → Laid
at place (becomes l) = laid l
at place (refused r) = refused_at place r

infixl 4 ◌then◌
unfoldable pub ◌then◌ : Laid → Laid → Laid
laid a then laid b = laid (a ++ b)
laid a then refused_at place r = refused_at place r
refused_at place r then laid b = refused_at place r
refused_at place r then refused_at q s = refused_at place r

-- what every lowering of a unit is given: its frame, and which variables are branch conditions of any block
pub record Context : Type 0 where
  pub frame : Frame
  pub condition : ℕ → Bool

-- a block's instructions, from scratch j on, and the scratch position after them: the ring goes on through the unit
unfoldable pub instructions : Context → ℕ → List PlacedInstruction → Laid
instructions c j [] = laid []
instructions c j (p ∷ ps) =
    at p.place (instruction c.frame j (c.condition p.instruction.result) p.instruction)
    then instructions c (scratch_after j p.instruction) ps

unfoldable pub scratch_through : ℕ → List PlacedInstruction → ℕ
scratch_through j [] = j
scratch_through j (p ∷ ps) = scratch_through (scratch_after j p.instruction) ps

unfoldable pub block : Context → ℕ → BasicBlock → Laid
block c j b = instructions c j b.instructions then at b.ending (terminator c.frame b.terminator)

unfoldable pub blocks : Context → ℕ → List BasicBlock → Laid
blocks c j [] = laid []
blocks c j (b ∷ bs) = block c j b then blocks c (scratch_through j b.instructions) bs

-- slot 0: R6 = R1
unfoldable pub unit_ops : Context → List BasicBlock → Laid
unit_ops c bs = at 0 (move 6 1) then blocks c 0 bs

-- the operations, and how many slots they take
unfoldable pub ops : Laid → List Op
ops (laid l) = l
ops (refused_at place r) = []

unfoldable pub slots : Laid → ℕ
slots l = slots_of (ops l)
