-- A record's numbers lie within their types, and what the reader answers for a record that was written.
use Rattle.std.specs.Prelude.{ℕ, List, [], ◌∷◌}
use Rattle.std.specs.Int.{w8, w16, w32, w64}
use Rattle.std.proofs.Common.{Fits, SFits}
use Rattle.ir.specs.Operands.{list_of}
use Rattle.ir.specs.declared.Operand.{Operand}
use Rattle.ir.specs.declared.Operand.TheVariants.{Var, Immediate}
use Rattle.ir.specs.declared.Opcode.{Opcode}
use Rattle.ir.specs.declared.Opcode.TheVariants as C
use Rattle.ir.specs.declared.Terminator.{Terminator}
use Rattle.ir.specs.declared.Terminator.TheVariants.{Return, Jump, Branch}
use Rattle.record.specs.declared.Due.{Due}
use Rattle.record.specs.declared.Due.TheVariants as Du
use Rattle.record.specs.declared.Record.{Record}
use Rattle.record.specs.declared.Record.TheVariants as R

abbrev pub TypedOperand : Operand → Type 0
TypedOperand (Var v) = Fits w32 v
TypedOperand (Immediate z) = SFits w64 z

abbrev pub TypedOperands : List Operand → Type 0
TypedOperands [] = Unit {0}
TypedOperands (o ∷ os) = TypedOperand o × TypedOperands os

abbrev pub TypedOpcode : Opcode → Type 0
TypedOpcode (C.HelperCall id) = Fits w32 id
TypedOpcode C.LoadKey = Unit {0}
TypedOpcode (C.Store size) = Fits w8 size
TypedOpcode (C.LoadCtx offset size) = SFits w32 offset × Fits w8 size
TypedOpcode (C.LoadPacket offset size) = SFits w32 offset × Fits w8 size
TypedOpcode (C.CopyCtxToMem offset size) = SFits w32 offset × Fits w32 size
TypedOpcode C.NullCheck = Unit {0}
TypedOpcode (C.Binary op) = Unit {0}
TypedOpcode (C.CallMap m) = Fits w32 m
TypedOpcode (C.UpdateMap m) = Fits w32 m
TypedOpcode (C.RingBufReserve m size) = Fits w32 m × Fits w32 size
TypedOpcode (C.RingBufSubmit m) = Fits w32 m

abbrev pub TypedTerminator : Terminator → Type 0
TypedTerminator (Return o) = TypedOperand o
TypedTerminator (Jump target) = Fits w32 target
TypedTerminator (Branch o to other) = TypedOperand o × Fits w32 to × Fits w32 other

abbrev pub Typed : Record → Type 0
Typed (R.Head h) = Fits w16 h.edition × Fits w16 h.maps × Fits w32 h.blocks
Typed (R.Map start len) = Fits w64 start × Fits w64 len
Typed (R.Block id) = Fits w32 id
Typed (R.Instruction i) = Fits w32 i.result × TypedOpcode i.opcode × TypedOperands (list_of i.operands)
Typed (R.Terminator t) = TypedTerminator t

-- where a record of its kind is due
unfoldable pub due_of : Record → Due
due_of (R.Head h) = Du.Head
due_of (R.Map start len) = Du.Map
due_of (R.Block id) = Du.Block
due_of (R.Instruction i) = Du.Inside
due_of (R.Terminator t) = Du.Inside

-- the record whose payload stands at a byte: a map's name lies there
unfoldable pub placed : ℕ → Record → Record
placed at (R.Head h) = R.Head h
placed at (R.Map start len) = R.Map at len
placed at (R.Block id) = R.Block id
placed at (R.Instruction i) = R.Instruction i
placed at (R.Terminator t) = R.Terminator t
