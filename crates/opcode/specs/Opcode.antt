-- Opcodes and their use of small, offset and number; what an opcode does not use is zero.
use Rattle.std.specs.Prelude.{ℕ, Bool, true, false, List, [], ◌∷◌, eqb, ltb, ℤ, pos, negsuc, get_or, None, Option, Some}
use Rattle.std.specs.Int.{w32}
use Rattle.std.proofs.Common.{to_z}
use Rattle.wire.specs.Pick.{pick, both}
use Rattle.ir.specs.declared.BinaryOp.{BinaryOp}
use Rattle.ir.specs.declared.BinaryOp.TheVariants.{Add, Sub, Mul, Div, Mod, Shl, Shr}
use Rattle.ir.specs.declared.Opcode.{Opcode}
use Rattle.ir.specs.declared.Opcode.TheVariants as C
use Rattle.opcode.specs.declared.Fields.{Fields}

-- the operations of Binary, by small
unfoldable pub operations : List BinaryOp
operations = Add ∷ Sub ∷ Mul ∷ Div ∷ Mod ∷ Shl ∷ Shr ∷ []

-- Binary's small
unfoldable pub small_of : BinaryOp → ℕ
small_of Add = 0
small_of Sub = 1
small_of Mul = 2
small_of Div = 3
small_of Mod = 4
small_of Shl = 5
small_of Shr = 6

-- ---- the table: an opcode's number, and its small, offset and number

abbrev pub row : ℕ → ℕ → ℤ → ℕ → Fields
row code small offset number = record { code = code; small = small; offset = offset; number = number }

-- a map in offset is there as the 32 bits of its number
unfoldable pub fields_of : Opcode → Fields
fields_of (C.HelperCall id) = row 1 0 (pos 0) id
fields_of C.LoadKey = row 2 0 (pos 0) 0
fields_of (C.Store size) = row 3 size (pos 0) 0
fields_of (C.LoadCtx offset size) = row 4 size offset 0
fields_of (C.LoadPacket offset size) = row 5 size offset 0
fields_of (C.CopyCtxToMem offset size) = row 6 0 offset size
fields_of C.NullCheck = row 7 0 (pos 0) 0
fields_of (C.Binary op) = row 8 (small_of op) (pos 0) 0
fields_of (C.CallMap map) = row 9 0 (pos 0) map
fields_of (C.UpdateMap map) = row 10 0 (pos 0) map
fields_of (C.RingBufReserve map size) = row 11 0 (to_z w32 map) size
fields_of (C.RingBufSubmit map) = row 12 0 (pos 0) map

-- ---- the table, read back: the opcode of fields that are known to be one's, and no rule is looked at

-- the map in offset
unfoldable pub map_of : ℤ → ℕ
map_of (pos m) = m
map_of (negsuc m) = 0

-- one row an opcode, from 0, which is none's
abbrev pub opcodes : Fields → List Opcode
opcodes f =
    C.LoadKey
    ∷ C.HelperCall f.number
    ∷ C.LoadKey
    ∷ C.Store f.small
    ∷ C.LoadCtx f.offset f.small
    ∷ C.LoadPacket f.offset f.small
    ∷ C.CopyCtxToMem f.offset f.number
    ∷ C.NullCheck
    ∷ C.Binary (get_or operations f.small Add)
    ∷ C.CallMap f.number
    ∷ C.UpdateMap f.number
    ∷ C.RingBufReserve (map_of f.offset) f.number
    ∷ C.RingBufSubmit f.number
    ∷ []

unfoldable pub opcode_in : Fields → Opcode
opcode_in f = get_or (opcodes f) f.code C.LoadKey

-- ---- reading

-- an opcode's map number is below the map count
unfoldable pub map_ok : ℕ → Opcode → Bool
map_ok maps (C.HelperCall id) = true
map_ok maps C.LoadKey = true
map_ok maps (C.Store size) = true
map_ok maps (C.LoadCtx offset size) = true
map_ok maps (C.LoadPacket offset size) = true
map_ok maps (C.CopyCtxToMem offset size) = true
map_ok maps C.NullCheck = true
map_ok maps (C.Binary op) = true
map_ok maps (C.CallMap map) = ltb map maps
map_ok maps (C.UpdateMap map) = ltb map maps
map_ok maps (C.RingBufReserve map size) = ltb map maps
map_ok maps (C.RingBufSubmit map) = ltb map maps

unfoldable pub same_number : ℤ → ℤ → Bool
same_number (pos m) (pos n) = eqb m n
same_number (pos m) (negsuc n) = false
same_number (negsuc m) (pos n) = false
same_number (negsuc m) (negsuc n) = eqb m n

unfoldable pub same_fields : Fields → Fields → Bool
same_fields f g = both (eqb f.code g.code) (both (eqb f.small g.small) (both (same_number f.offset g.offset) (eqb f.number g.number)))

-- the fields are an opcode's in a unit of so many maps where they are its fields again, and its map, if it has one, is one of those
unfoldable pub opcode_of : Fields → ℕ → Option Opcode
opcode_of f maps = pick (both (same_fields f (fields_of (opcode_in f))) (map_ok maps (opcode_in f))) (Some (opcode_in f)) None

unfoldable pub is_opcode : Option Opcode → Bool
is_opcode (Some o) = true
is_opcode None = false
