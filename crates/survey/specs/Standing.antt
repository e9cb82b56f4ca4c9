-- Where the records of a unit's blocks stand: after its block record, a block's instructions one after the other, then its terminator; then the next block.
use Rattle.std.specs.Prelude.{◌≡◌, List, [], ◌∷◌, ℕ, ◌+◌, ◌<◌, ◌≤◌, length}
use Rattle.std.specs.Int.{w32}
use Rattle.wire.specs.Le.{unsigned_at}
use Rattle.ir.specs.declared.Instruction.{Instruction}
use Rattle.record.specs.Frame.{next_at}
use Rattle.unitfile.specs.Unit.{PlacedInstruction, BasicBlock}
use Rattle.recordparts.specs.Stands.{InstructionAt, TerminatorAt}

-- the instructions stand one after the other from a byte to the byte end
pub data Chain (b : List ℕ) (end : ℕ) : ℕ → List PlacedInstruction → Type 0 where
  done : Chain b end end []
  next : {at : ℕ} {i : Instruction} {is : List PlacedInstruction} → InstructionAt b at i → at < end → Chain b end (next_at b at) is → Chain b end at (record { place = at; instruction = i } ∷ is)

-- the block k, whose record begins at a byte
pub record BlockAt (b : List ℕ) (at : ℕ) (k : BasicBlock) : Type 0 where
  pub place : k.place ≡ at
  pub id : k.id ≡ unsigned_at w32 b (at + 4)
  pub begins : next_at b at ≡ at + 8
  pub chain : Chain b k.ending (at + 8) k.instructions
  pub ends : TerminatorAt b k.ending k.terminator
  pub within : at + 8 ≤ k.ending
  pub after : next_at b k.ending ≤ length b

-- the blocks stand one after the other from a byte on
pub data Standing (b : List ℕ) : ℕ → List BasicBlock → Type 0 where
  none : {at : ℕ} → Standing b at []
  more : {at : ℕ} {k : BasicBlock} {ks : List BasicBlock} → BlockAt b at k → Standing b (next_at b k.ending) ks → Standing b at (k ∷ ks)
