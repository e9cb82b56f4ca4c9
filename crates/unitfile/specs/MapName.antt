-- A map's name by its number, and where it lies, after the reading refusals.
use Rattle.std.specs.Prelude.{◌≡◌, ℕ, ◌+◌, ◌-◌, ◌≤◌, List, [], ltb, length, get_or, take, Bool, Err, None, Ok, Option, Result, Some, false, true}
use Rattle.std.specs.Borrow.{Bor}
use Rattle.wire.specs.Pick.{pick}
use Rattle.record.specs.Frame.{next_at}
use Rattle.record.specs.Record.{read_record}
use Rattle.record.specs.declared.Record.TheVariants as R
use Rattle.record.specs.declared.Due.TheVariants as Du
use Rattle.opening.specs.Names.{part}
use Rattle.unitfile.specs.Unit.{Parsed, parsed, refused, parse, map_bytes}
use Rattle.record.specs.declared.Fault.{Fault}

-- the bytes of the name; none for a refusal or where there is no such map
unfoldable pub name_of : Parsed → ℕ → List ℕ
name_of (parsed u) k = get_or u.names k []
name_of (refused f) k = []

-- what tells these from an empty name
unfoldable pub named_of : Parsed → ℕ → Result Bool Fault
named_of (parsed u) k = pick (ltb k (length u.names)) (Ok true) (Ok false)
named_of (refused f) k = Err f

-- in the unit's bytes b: after the head and the maps before it, and the first 4 bytes of its own record
unfoldable pub place_of : List ℕ → Parsed → ℕ → Result (Option (ℕ × ℕ)) Fault
place_of b (parsed u) k =
    pick (ltb k (length u.names)) (Ok (Some (next_at b 0 + map_bytes (take k u.names) + 4, length (get_or u.names k [])))) (Ok None)
place_of b (refused f) k = Err f

-- the name lies there, inside the bytes
pub record Lying (b name : List ℕ) (start len : ℕ) : Type 0 where
  pub name_is : name ≡ part start len b
  pub within : start + len ≤ length b

-- a map's name is part of the unit, the payload of its record
pub record NameInside (b : List ℕ) (k : ℕ) : Type 0 where
  pub start : ℕ
  pub len : ℕ
  pub within : start + len ≤ length b
  pub name : name_of (parse b) k ≡ part start len b
  pub read : read_record b (start - 4) Du.Map 0 ≡ Ok (R.Map start len, start + len)

-- what a reference to bytes points at: a block of memory, the first byte there, and the bytes
pub record Part : Type 0 where
  pub block : ℕ
  pub first : ℕ
  pub bytes : List ℕ

abbrev pub pointed : Bor (List ℕ) → Part
pointed r = record { block = r.ref_ptr.0; first = r.ref_ptr.1; bytes = r.now }

-- the len bytes from start on of those that are lent
abbrev pub within : Bor (List ℕ) → ℕ → ℕ → Part
within s start len = record { block = s.ref_ptr.0; first = start + s.ref_ptr.1; bytes = part start len s.now }

-- the part at a place; no bytes, at the first of those that are lent, for a refusal or where there is no such map
unfoldable pub part_at : Bor (List ℕ) → Result (Option (ℕ × ℕ)) Fault → Part
part_at s (Ok (Some (start, len))) = within s start len
part_at s (Ok None) = within s 0 0
part_at s (Err f) = within s 0 0

-- the part of a lent unit that is a map's name
unfoldable pub name_part : Bor (List ℕ) → ℕ → Part
name_part s k = part_at s (place_of s.now (parse s.now) k)
