-- The whole unit: what the reader answers, and the unit that the bytes are.
use mathlib.Core.Path.{◌≡◌, refl, ap, ◌∙◌, sym, subst}
use mathlib.Core.List.{List, [], ◌∷◌, ◌++◌}
use Prim.Native.Nat.{ℕ, zero, suc, ◌+◌, ◌<◌}
use native.Mathlib.Nat.{zero-add}
use native.Mathlib.Omega.{arith}
use lib.ListN.{length, get_or}
use Rattle.record.specs.declared.Head.{Head}
use Rattle.record.specs.declared.Fault.{Fault}
use Rattle.opening.specs.Names.{part, named, names_at, first_record, Opened, opened, shut, open_unit}
use Rattle.opening.specs.Places.{head_of, map_from, body_of}
use Rattle.record.specs.Frame.{next_at}
use Rattle.opening.proofs.Heads.{opened_at, after_head}
use Rattle.opening.proofs.MapLaws.{is_map, read_one, part_length, names_count, NameAt, name_at}
use Rattle.unitfile.specs.Records.{Placed, Records, records, cons, at_block, records_from}
use Rattle.unitfile.specs.Records as rs
use Rattle.unitfile.specs.Unit.{Parsed, parsed, refused, none, group, with_records, on_opened, parse, map_bytes, found_of, read_unit}
use Rattle.unitfile.specs.Inner.{found_with, found_in}
use Rattle.unitfile.specs.MapName.{name_of}
use Rattle.unitfile.specs.declared.Found.{Found}
use Rattle.unitfile.proofs.Blocks.{group_count}
use Rattle.std.specs.Prelude.{Err, Ok}
use Rattle.wire.proofs.Pairs.{ok_parts}

-- ---- the blocks

pub found_cons : (found : Found) (p : Placed) (x : Records) → found_with found (cons p x) ≡ found_with found x
unfolding found_with cons
found_cons found p (records l) = refl
found_cons found p (rs.refused f) = refl

pub found_body : (b : List ℕ) (o : Opened) (h : Head) (at : ℕ) → body_of o ≡ Ok (h, at) → found_in b o ≡ found_with (record { maps = h.maps; blocks = h.blocks; body = at }) (records_from b h.maps (at_block at h.blocks))
unfolding body_of found_in
found_body b (opened g names to) h at e =
    let same = ok_parts e in
    cc (same.0, same.1)
found_body b (shut f) h at e = let z : ◌≡◌ {A = ℕ} 0 1 = cc in absurd (omega arith)

pub found_refused : (b : List ℕ) (o : Opened) (f : Fault) → body_of o ≡ Err f → found_in b o ≡ Err f
unfolding body_of found_in
found_refused b (opened h names at) f e = let z : ◌≡◌ {A = ℕ} 0 1 = cc in absurd (omega arith)
found_refused b (shut g) f e = let z : g ≡ f = cc in ap Err z

-- ---- the counts of a unit that was opened

pub map_bytes_more : (l : List (List ℕ)) (name : List ℕ) → map_bytes (l ++ (name ∷ [])) ≡ map_bytes l + (4 + length name)
unfolding map_bytes
map_bytes_more [] name = omega arith
map_bytes_more (n ∷ l) name = let r = map_bytes_more l name in omega arith

-- the maps from a byte on end after their records
maps_end : (b : List ℕ) (n : ℕ) (names : List (List ℕ)) (at : ℕ) (all : List (List ℕ)) (end : ℕ) → names_at b names at n ≡ named all end → end + map_bytes names ≡ at + map_bytes all
unfolding names_at
maps_end b zero names at all end e =
    let p : names ≡ all = cc in
    let q : at ≡ end = cc in
    omega (arith, ap map_bytes p)
maps_end b (suc n) names at all end e =
    let r = read_one b names at n all end e in
    let name = part r.start r.len b in
    let m = is_map b at r.start r.len r.next r.map in
    let i = maps_end b n (names ++ (name ∷ [])) r.next all end r.rest in
    let bytes = map_bytes_more names name in
    let size = part_length r.start r.len b (omega (arith, m.ends, m.within)) in
    omega (arith, m.begins, m.ends)

module _ (b : List ℕ) (h : Head) (names : List (List ℕ)) (at : ℕ) (o : open_unit b ≡ opened h names at) where
  found_is : (l : List Placed) → records_from b h.maps (at_block at h.blocks) ≡ records l → found_of b (parsed (record { names = names; blocks = group none l })) ≡ Ok (record { maps = h.maps; blocks = h.blocks; body = at })
  unfolding found_of map_bytes
  found_is l p =
      let q = opened_at b h names at o in
      let maps : length names ≡ h.maps = omega (arith, names_count b h.maps [] q.first names at q.maps) in
      let blocks : length (group none l) ≡ h.blocks = group_count b h.maps l (at_block at h.blocks) refl p in
      let body : next_at b 0 + map_bytes names ≡ at = omega (arith, maps_end b h.maps [] q.first names at q.maps, after_head b h q.first q.head) in
      rw (maps, blocks, body) refl

  records_found : (x : Records) → records_from b h.maps (at_block at h.blocks) ≡ x → found_of b (with_records names x) ≡ found_with (record { maps = h.maps; blocks = h.blocks; body = at }) x
  unfolding with_records found_with found_of
  records_found (records l) p = found_is l p
  records_found (rs.refused f) p = refl

module _ (b : List ℕ) where
  found_by : (o : Opened) → open_unit b ≡ o → found_of b (on_opened b o) ≡ found_in b o
  unfolding on_opened found_in found_of
  found_by (opened h names at) e = records_found b h names at e _ refl
  found_by (shut f) e = refl

  -- as the code finds it
  pub read_is : read_unit b ≡ found_in b (open_unit b)
  unfolding read_unit parse
  read_is = found_by (open_unit b) refl

-- ---- the unit that the bytes are

-- a unit that was read whole: its head, its maps' names and its blocks' records
pub record Whole (b : List ℕ) (found : Found) : Type 0 where
  pub opening : Head
  pub maps_are : opening.maps ≡ found.maps
  pub blocks_are : opening.blocks ≡ found.blocks
  pub first : ℕ
  pub names : List (List ℕ)
  pub list : List Placed
  pub head : head_of (first_record b) ≡ Ok (opening, first)
  pub maps : names_at b [] first found.maps ≡ named names found.body
  pub body : records_from b found.maps (at_block found.body found.blocks) ≡ records list
  pub unit : parse b ≡ parsed (record { names = names; blocks = group none list })

module _ (b : List ℕ) where
  records_by : (h : Head) (names : List (List ℕ)) (at : ℕ) → open_unit b ≡ opened h names at → (x : Records) → records_from b h.maps (at_block at h.blocks) ≡ x → (found : Found) → found_with (record { maps = h.maps; blocks = h.blocks; body = at }) x ≡ Ok found → Whole b found
  unfolding found_with parse on_opened with_records
  records_by h names at o (records l) p found e =
      let z : record { maps = h.maps; blocks = h.blocks; body = at } ≡ found = cc in
      let q = opened_at b h names at o in
      subst (Whole b) z (record { opening = h; maps_are = refl; blocks_are = refl; first = q.first; names = names; list = l; head = q.head; maps = q.maps; body = p; unit = rw (o, p) })
  records_by h names at o (rs.refused f) p found e = let z : ◌≡◌ {A = ℕ} 0 1 = cc in absurd (omega arith)

  whole_by : (o : Opened) → open_unit b ≡ o → (found : Found) → found_in b o ≡ Ok found → Whole b found
  unfolding found_in
  whole_by (opened h names at) p found e = records_by h names at p _ refl found e
  whole_by (shut f) p found e = let z : ◌≡◌ {A = ℕ} 0 1 = cc in absurd (omega arith)

  pub whole : (found : Found) → read_unit b ≡ Ok found → Whole b found
  whole found e = whole_by (open_unit b) refl found (sym (read_is b) ∙ e)

  refused_by : (p : Parsed) (f : Fault) → found_of b p ≡ Err f → p ≡ refused f
  unfolding found_of
  refused_by (parsed u) f e = let z : ◌≡◌ {A = ℕ} 0 1 = cc in absurd (omega arith)
  refused_by (refused g) f e = let z : g ≡ f = cc in ap refused z

  pub refused_whole : (f : Fault) → read_unit b ≡ Err f → parse b ≡ refused f
  unfolding read_unit
  refused_whole f e = refused_by (parse b) f e

-- ---- a map's name

module _ (b : List ℕ) (found : Found) (w : Whole b found) where
  pub names_all : length w.names ≡ found.maps
  names_all = let n = names_count b _ [] w.first w.names found.body w.maps in omega arith

  pub name_is : (k : ℕ) → name_of (parse b) k ≡ get_or w.names k []
  unfolding name_of
  name_is k = rw w.unit

  -- where the name of a map lies
  pub name_place : (k : ℕ) → k < found.maps → NameAt b w.first k (name_of (parse b) k)
  name_place k h = rw (name_is k) (simp zero-add at (name_at b _ k [] w.first w.names found.body w.maps h))

  -- as the code finds it, from the head on
  pub head_there : (f : Fault) → head_of (first_record b) ≡ Err f → ⊥
  head_there f e =
      let z = sym w.head ∙ e in
      let y : ◌≡◌ {A = ℕ} 0 1 = cc in omega arith

  pub name_from : (h : Head) (first k : ℕ) → head_of (first_record b) ≡ Ok (h, first) → k < found.maps → NameAt b first k (name_of (parse b) k)
  name_from h first k e l =
      let z = sym w.head ∙ e in
      let y : w.first ≡ first = (ok_parts z).1 in
      subst (λ (x : ℕ). NameAt b x k (name_of (parse b) k)) y (name_place k l)

pub name_there : {b : List ℕ} {first k : ℕ} {name : List ℕ} → NameAt b first k name → (f : Fault) → map_from b first k ≡ Err f → ⊥
name_there n f e =
    let z = sym n.found ∙ e in
    let y : ◌≡◌ {A = ℕ} 0 1 = cc in omega arith
