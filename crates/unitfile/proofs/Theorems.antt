-- Reading is decided on every byte string; the head's counts are the unit's; a map's name lies inside the unit; no name comes twice.
use mathlib.Core.Path.{◌≡◌, refl, ap, ◌∙◌, sym, subst}
use mathlib.Core.List.{List, []}
use Prim.Native.Nat.{ℕ, ◌-◌, ◌<◌}
use native.Mathlib.Omega.{arith}
use lib.ListN.{length}
use Rattle.record.specs.declared.Fault.{Fault}
use Rattle.record.specs.declared.Head.{Head}
use Rattle.unitfile.specs.Unit.{UnitIr, parsed, refused, none, group, parse, read_unit, Decided, refusal, whole_unit}
use Rattle.unitfile.specs.MapName.{NameInside}
use Rattle.unitfile.specs.declared.Found.{Found}
use Rattle.opening.specs.Names.{Distinct, first_record}
use Rattle.opening.specs.Places.{head_of}
use Rattle.opening.proofs.MapLaws.{is_map, names_distinct}
use Rattle.unitfile.proofs.Whole.{Whole, whole, refused_whole, name_place}
use Rattle.unitfile.proofs.Units.{unit, unit_of}
use Rattle.std.specs.Prelude.{Err, Ok, Result}
use Rattle.wire.proofs.Pairs.{ok_parts}

decided_by : (b : List ℕ) (x : Result Found Fault) → read_unit b ≡ x → Decided b
decided_by b (Ok found) e = let u = unit_of b found e in whole_unit found (unit b found e) e u.parsed_as u.names u.blocks
decided_by b (Err f) e = refusal f e (refused_whole b f e)

pub decided : (b : List ℕ) → Decided b
decided b = decided_by b (read_unit b) refl

-- the reader refuses exactly what the definition refuses, for the same reason
pub refused_alike : (b : List ℕ) (f : Fault) → (read_unit b ≡ Err f → parse b ≡ refused f) × (parse b ≡ refused f → read_unit b ≡ Err f)
refused_alike b f = (refused_whole b f, go (decided b))
  where
    go : Decided b → parse b ≡ refused f → read_unit b ≡ Err f
    go (refusal g r p) e =
        let q = sym p ∙ e in
        let z : g ≡ f = cc in r ∙ ap Err z
    go (whole_unit found u r p n m) e =
        let q = sym p ∙ e in
        let z : ◌≡◌ {A = ℕ} 0 1 = cc in absurd (omega arith)

-- a unit has as many maps and blocks as its head says
pub head_counts : (b : List ℕ) (u : UnitIr) (h : Head) (first : ℕ) → parse b ≡ parsed u → head_of (first_record b) ≡ Ok (h, first) → (length u.names ≡ h.maps) × (length u.blocks ≡ h.blocks)
head_counts b u h first = go (decided b)
  where
    go : Decided b → parse b ≡ parsed u → head_of (first_record b) ≡ Ok (h, first) → (length u.names ≡ h.maps) × (length u.blocks ≡ h.blocks)
    go (refusal f r p) e i =
        let q = sym p ∙ e in
        let z : ◌≡◌ {A = ℕ} 0 1 = cc in absurd (omega arith)
    go (whole_unit found v r p n m) e i =
        let w = whole b found r in
        let q = sym p ∙ e in
        let z : v ≡ u = cc in
        let j = sym w.head ∙ i in
        let y : w.opening ≡ h = (ok_parts j).0 in
        (ap (λ (x : UnitIr). length x.names) (sym z) ∙ n ∙ sym w.maps_are ∙ ap (λ (x : Head). x.maps) y, ap (λ (x : UnitIr). length x.blocks) (sym z) ∙ m ∙ sym w.blocks_are ∙ ap (λ (x : Head). x.blocks) y)

-- ---- a map's name

name_by : (b : List ℕ) (found : Found) → Whole b found → (k : ℕ) → k < found.maps → NameInside b k
name_by b found w k h =
    let n = name_place b found w k h in
    let m = is_map b n.at n.start n.len n.next n.map in
    let at : n.at ≡ n.start - 4 = omega (arith, m.begins) in
    record {
      start = n.start;
      len = n.len;
      within = omega (arith, m.ends, m.within);
      name = n.name_is;
      read = rw (← at, ← m.ends) m.read;
    }

pub name_inside : (b : List ℕ) (u : UnitIr) (k : ℕ) → parse b ≡ parsed u → k < length u.names → NameInside b k
name_inside b u k = go (decided b)
  where
    go : Decided b → parse b ≡ parsed u → k < length u.names → NameInside b k
    go (refusal f r p) e h =
        let q = sym p ∙ e in
        let z : ◌≡◌ {A = ℕ} 0 1 = cc in absurd (omega arith)
    go (whole_unit found v r p n m) e h =
        let q = sym p ∙ e in
        let z : v ≡ u = cc in
        let l = ap (λ (x : UnitIr). length x.names) z in
        name_by b found (whole b found r) k (omega arith)

-- no name twice
pub names_apart : (b : List ℕ) (u : UnitIr) → parse b ≡ parsed u → Distinct u.names
names_apart b u = go (decided b)
  where
    go : Decided b → parse b ≡ parsed u → Distinct u.names
    go (refusal f r p) e =
        let q = sym p ∙ e in
        let z : ◌≡◌ {A = ℕ} 0 1 = cc in absurd (omega arith)
    go (whole_unit found v r p n m) e =
        let w = whole b found r in
        let q = sym w.unit ∙ e in
        let z : record { names = w.names; blocks = group none w.list } ≡ u = cc in
        subst Distinct (ap (λ (x : UnitIr). x.names) z)
        (names_distinct b _ [] w.first w.names found.body w.maps (record { apart = λ i j h l. absurd (omega arith) }))
