-- The fields of a record mean that record.
use mathlib.Core.Path.{◌≡◌, refl}
use mathlib.Core.Bool.{true}
use Prim.Native.Nat.{ℕ, ◌<◌, ◌^◌}
use native.Mathlib.Omega.{arith}
use borrow.Author.Tests.{lt-ltb, ltb-true}
use lib.Signed.{mag}
use mir.Syntax.{w32, w64}
use mir.Val.{of_z}
use mir.ValLaws.{to_z-of_z, to_z_pos}
use Rattle.ir.specs.Operands.{list_of, pushed}
use Rattle.ir.specs.declared.BinaryOp.{BinaryOp}
use Rattle.ir.specs.declared.BinaryOp.TheVariants.{Add, Sub, Mul, Div, Mod, Shl, Shr}
use Rattle.ir.specs.declared.Opcode.{Opcode}
use Rattle.ir.specs.declared.Opcode.TheVariants as C
use Rattle.ir.specs.declared.Operand.{Operand}
use Rattle.ir.specs.declared.Operand.TheVariants.{Var, Immediate}
use Rattle.ir.specs.declared.operands.Operands.{Operands}
use Rattle.ir.specs.declared.operands.Operands.TheVariants.{Zero, One, Two, Three, Four, Five, Six, Seven, Eight}
use Rattle.ir.specs.declared.Terminator.TheVariants.{Return, Jump, Branch}
use Rattle.wire.specs.Range.{fits32}
use Rattle.opcode.specs.Opcode.{fields_of as opcodeFields, small_of, map_ok}
use Rattle.opcode.proofs.Opcodes.{opcode_written}
use Rattle.opcode.specs.declared.Fields.{Fields}
use Rattle.operand.specs.Operand.{on_operand}
use Rattle.record.specs.Instruction.{joined}
use Rattle.record.specs.Terminator.{returning, branching}
use Rattle.record.specs.Payload.{of_instruction, of_terminator}
use Rattle.record.specs.declared.Record.{Record}
use Rattle.record.specs.declared.Record.TheVariants as R
use Rattle.recordwriter.specs.Typed.{TypedOperand, TypedOperands, TypedOpcode, Typed}
use Rattle.recordfields.specs.Fields.{tag_of, value_of, operands_numbers, instruction_numbers, terminator_numbers, record_numbers, padded, fields_of}
use Rattle.recordfields.specs.Meant.{operand_from, operands_from, opcode_from, head_from, block_from, instruction_from, jump_from, branch_from, terminator_from, record_from, MapsOk}
use Rattle.std.specs.Prelude.{Some}

-- ---- an opcode

-- its fields lie within their types
record Within (f : Fields) : Type 0 where
  code : f.code < 256
  small : f.small < 256
  offset : mag f.offset < 2 ^ 31
  number : f.number < 2 ^ 32

small_within : (op : BinaryOp) → small_of op < 256
unfolding small_of
small_within Add = omega arith
small_within Sub = omega arith
small_within Mul = omega arith
small_within Div = omega arith
small_within Mod = omega arith
small_within Shl = omega arith
small_within Shr = omega arith

within : (maps : ℕ) (o : Opcode) → maps < 65536 → map_ok maps o ≡ true → TypedOpcode o → Within (opcodeFields o)
unfolding opcodeFields map_ok
within maps (C.HelperCall id) h m t = record { code = omega arith; small = omega arith; offset = omega arith; number = t.fits }
within maps C.LoadKey h m t = record { code = omega arith; small = omega arith; offset = omega arith; number = omega arith }
within maps (C.Store size) h m t = record { code = omega arith; small = t.fits; offset = omega arith; number = omega arith }
within maps (C.LoadCtx offset size) h m t = record { code = omega arith; small = t.1.fits; offset = t.0.sfits; number = omega arith }
within maps (C.LoadPacket offset size) h m t = record { code = omega arith; small = t.1.fits; offset = t.0.sfits; number = omega arith }
within maps (C.CopyCtxToMem offset size) h m t = record { code = omega arith; small = omega arith; offset = t.0.sfits; number = t.1.fits }
within maps C.NullCheck h m t = record { code = omega arith; small = omega arith; offset = omega arith; number = omega arith }
within maps (C.Binary op) h m t = record { code = omega arith; small = small_within op; offset = omega arith; number = omega arith }
within maps (C.CallMap n) h m t = record { code = omega arith; small = omega arith; offset = omega arith; number = t.fits }
within maps (C.UpdateMap n) h m t = record { code = omega arith; small = omega arith; offset = omega arith; number = t.fits }
within maps (C.RingBufReserve n size) h m t =
    let few : n < 2 ^ 31 = omega (arith, ltb-true n maps m) in
    record { code = omega arith; small = omega arith; offset = rw (to_z_pos w32 n few) few; number = t.1.fits }
within maps (C.RingBufSubmit n) h m t = record { code = omega arith; small = omega arith; offset = omega arith; number = t.fits }

module _ (maps : ℕ) (o : Opcode) (h : maps < 65536) (m : map_ok maps o ≡ true) (t : TypedOpcode o) where
  opcode_back : opcode_from maps (opcodeFields o).code (opcodeFields o).small (of_z w64 (opcodeFields o).offset) (opcodeFields o).number ≡ Some o
  unfolding opcode_from fits32
  opcode_back =
      let g = within maps o h m t in
      let z = (opcodeFields o).offset in
      let wide : mag z < 2 ^ 63 = omega (arith, g.offset) in
      rw (to_z-of_z w64 z (record { sfits = wide }), lt-ltb _ _ g.code, lt-ltb _ _ g.small, lt-ltb (mag z) (2 ^ 31) g.offset, lt-ltb _ _ g.number) (opcode_written maps o (omega arith) m)

-- ---- operands

operand_back : (o : Operand) → TypedOperand o → operand_from (tag_of o) (value_of o) ≡ Some o
unfolding operand_from tag_of value_of
operand_back (Var v) t = rw (lt-ltb v (2 ^ 32) t.fits)
operand_back (Immediate z) t = rw (to_z-of_z w64 z t)

-- ---- records

module _ (maps result : ℕ) (o : Opcode) (few : result < 2 ^ 32) (same : opcode_from maps (opcodeFields o).code (opcodeFields o).small (of_z w64 (opcodeFields o).offset) (opcodeFields o).number ≡ Some o) where
  instruction_back : (l : Operands) → TypedOperands (list_of l) → record_from maps (padded (instruction_numbers result (opcodeFields o) (list_of l))) ≡ Some (R.Instruction (record { result = result; opcode = o; operands = l }))
  unfolding record_from instruction_from list_of operands_from on_operand padded instruction_numbers operands_numbers pushed joined of_instruction
  instruction_back Zero t = rw (lt-ltb result (2 ^ 32) few, same)
  instruction_back (One a) t = rw (lt-ltb result (2 ^ 32) few, same, operand_back a t.0)
  instruction_back (Two a b) t = rw (lt-ltb result (2 ^ 32) few, same, operand_back a t.0, operand_back b t.1.0)
  instruction_back (Three a b c) t = rw (lt-ltb result (2 ^ 32) few, same, operand_back a t.0, operand_back b t.1.0, operand_back c t.1.1.0)
  instruction_back (Four a b c d) t = rw (lt-ltb result (2 ^ 32) few, same, operand_back a t.0, operand_back b t.1.0, operand_back c t.1.1.0, operand_back d t.1.1.1.0)
  instruction_back (Five a b c d e) t = rw (lt-ltb result (2 ^ 32) few, same, operand_back a t.0, operand_back b t.1.0, operand_back c t.1.1.0, operand_back d t.1.1.1.0, operand_back e t.1.1.1.1.0)
  instruction_back (Six a b c d e p) t = rw (lt-ltb result (2 ^ 32) few, same, operand_back a t.0, operand_back b t.1.0, operand_back c t.1.1.0, operand_back d t.1.1.1.0, operand_back e t.1.1.1.1.0, operand_back p t.1.1.1.1.1.0)
  instruction_back (Seven a b c d e p q) t = rw (lt-ltb result (2 ^ 32) few, same, operand_back a t.0, operand_back b t.1.0, operand_back c t.1.1.0, operand_back d t.1.1.1.0, operand_back e t.1.1.1.1.0, operand_back p t.1.1.1.1.1.0, operand_back q t.1.1.1.1.1.1.0)
  instruction_back (Eight a b c d e p q r) t = rw (lt-ltb result (2 ^ 32) few, same, operand_back a t.0, operand_back b t.1.0, operand_back c t.1.1.0, operand_back d t.1.1.1.0, operand_back e t.1.1.1.1.0, operand_back p t.1.1.1.1.1.0, operand_back q t.1.1.1.1.1.1.0, operand_back r t.1.1.1.1.1.1.1.0)

pub fields_back : (maps : ℕ) (r : Record) → maps < 65536 → MapsOk maps r → Typed r → record_from maps (fields_of r) ≡ Some r
unfolding record_from head_from block_from jump_from branch_from terminator_from fields_of record_numbers terminator_numbers padded returning branching of_terminator
fields_back maps (R.Head h) f m t = rw (lt-ltb h.edition (2 ^ 16) t.0.fits, lt-ltb h.maps (2 ^ 16) t.1.fits, lt-ltb h.blocks (2 ^ 32) t.2.fits)
fields_back maps (R.Map start len) f m t = refl
fields_back maps (R.Block id) f m t = rw (lt-ltb id (2 ^ 32) t.fits)
fields_back maps (R.Instruction i) f m t = instruction_back maps i.result i.opcode t.0.fits (opcode_back maps i.opcode f m t.1) i.operands t.2
fields_back maps (R.Terminator (Return o)) f m t = rw (operand_back o t)
fields_back maps (R.Terminator (Jump target)) f m t = rw (lt-ltb target (2 ^ 32) t.fits)
fields_back maps (R.Terminator (Branch o to other)) f m t = rw (operand_back o t.0, lt-ltb to (2 ^ 32) t.1.fits, lt-ltb other (2 ^ 32) t.2.fits)
