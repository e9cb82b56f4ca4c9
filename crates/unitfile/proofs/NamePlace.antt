-- Where the name of a map lies, by its number: after the records of the maps before it.
use mathlib.Core.Path.{◌≡◌, refl, ap, ◌∙◌, sym}
use mathlib.Core.Bool.{Bool, true, false}
use mathlib.Core.List.{List, [], ◌∷◌, ◌++◌}
use Prim.Native.Nat.{ℕ, zero, suc, ◌+◌, ◌<◌, ◌≤◌}
use native.Mathlib.Nat.{add-zero, zero-add}
use native.Mathlib.Omega.{arith}
use borrow.Author.Tests.{lt-ltb, le-ltb, ltb-true, ltb-false}
use denote.Ref.{Bor}
use lib.Dec.{ltb}
use lib.ListN.{length, get_or, take, length-append, get_or-eq_default}
use Rattle.wire.specs.Pick.{pick}
use Rattle.record.specs.Frame.{next_at}
use Rattle.record.specs.declared.Head.{Head}
use Rattle.record.specs.declared.Fault.{Fault}
use Rattle.opening.specs.Names.{part, named, names_at, first_record}
use Rattle.opening.specs.Places.{head_of, on_map_at, map_from}
use Rattle.unitfile.specs.Unit.{Parsed, parsed, refused, parse, map_bytes, read_unit}
use Rattle.unitfile.specs.MapName.{name_of, named_of, place_of, Lying, part_at, name_part}
use Rattle.unitfile.specs.declared.Found.{Found}
use Rattle.opening.proofs.Choice.{pick_ind}
use Rattle.opening.proofs.Heads.{after_head}
use Rattle.opening.proofs.MapLaws.{is_map, read_one, part_length, names_front}
use Rattle.unitfile.proofs.Whole.{map_bytes_more, Whole, whole, refused_whole, names_all, name_is, name_place, name_from}
use Rattle.std.specs.Prelude.{is_some, Err, None, Ok, Option, Result, Some}
use Rattle.wire.proofs.Pairs.{ok_parts}
use Rattle.opening.specs.declared.MapAt.{MapAt}

-- ---- the maps before it

place_from : (b : List ℕ) (n k : ℕ) (names : List (List ℕ)) (at : ℕ) (all : List (List ℕ)) (end : ℕ) → names_at b names at n ≡ named all end → k < n → (start len next : ℕ) → map_from b at k ≡ Ok (record { start = start; len = len; next = next }) → start + map_bytes names ≡ at + map_bytes (take (length names + k) all) + 4
unfolding map_from on_map_at
place_from b zero k names at all end e h start len next f = absurd (omega arith)
place_from b (suc n) zero names at all end e h start len next f =
    let m = is_map b at start len next f in
    let front = names_front b (suc n) names at all end e in
    rw (add-zero, front) (omega (arith, m.begins))
place_from b (suc n) (suc k) names at all end e h start len next f =
    let r = read_one b names at n all end e in
    let name = part r.start r.len b in
    let m = is_map b at r.start r.len r.next r.map in
    let i = place_from b n k (names ++ (name ∷ [])) r.next all end r.rest (omega arith) start len next (rw r.map at f) in
    let l = length-append names (name ∷ []) in
    let j : length (names ++ (name ∷ [])) + k ≡ length names + suc k = omega arith in
    let bytes = map_bytes_more names name in
    let size = part_length r.start r.len b (omega (arith, m.ends, m.within)) in
    omega (arith, rw j at i, m.begins, m.ends)

-- ---- as the code finds it

module _ (b : List ℕ) (found : Found) (w : Whole b found) where
  pub place_at : (h : Head) (first k : ℕ) → head_of (first_record b) ≡ Ok (h, first) → k < found.maps → (start len next : ℕ) → map_from b first k ≡ Ok (record { start = start; len = len; next = next }) → place_of b (parse b) k ≡ Ok (Some (start, len))
  unfolding place_of map_bytes
  place_at h first k e l start len next f =
      let same = sym w.head ∙ e in
      let z : w.first ≡ first = (ok_parts same).1 in
      let n = name_from b found w h first k e l in
      let g = sym n.found ∙ f in
      let here : ◌≡◌ {A = MapAt} (record { start = n.start; len = n.len; next = n.next }) (record { start = start; len = len; next = next }) = cc in
      let p : n.start ≡ start = ap (λ (m : MapAt). m.start) here in
      let q : n.len ≡ len = ap (λ (m : MapAt). m.len) here in
      let m = is_map b n.at n.start n.len n.next n.map in
      let size = part_length n.start n.len b (omega (arith, m.ends, m.within)) in
      let name = ap length (sym (name_is b found w k) ∙ n.name_is) in
      let begins = place_from b found.maps k [] w.first w.names found.body w.maps l start len next (rw z f) in
      let count = names_all b found w in
      let start_is : next_at b 0 + map_bytes (take k w.names) + 4 ≡ start = omega (arith, rw zero-add at begins, after_head b h first e) in
      let len_is : length (get_or w.names k []) ≡ len = omega arith in
      rw (w.unit, lt-ltb k (length w.names) (omega arith), start_is, len_is)

  pub place_none : (k : ℕ) → found.maps ≤ k → place_of b (parse b) k ≡ Ok None
  unfolding place_of
  place_none k h =
      let count = names_all b found w in
      rw (w.unit, le-ltb k (length w.names) (omega arith))

pub place_refused : (b : List ℕ) (k : ℕ) (f : Fault) → read_unit b ≡ Err f → place_of b (parse b) k ≡ Err f
unfolding place_of
place_refused b k f e = rw (refused_whole b f e)

-- ---- what a place says of the name

lying_by : (b : List ℕ) (x : Result Found Fault) → read_unit b ≡ x → (k start len : ℕ) → place_of b (parse b) k ≡ Ok (Some (start, len)) → Lying b (name_of (parse b) k) start len
lying_by b (Ok found) r k start len e = go (ltb k found.maps) refl
  where
    go : (t : Bool) → ltb k found.maps ≡ t → Lying b (name_of (parse b) k) start len
    go true t =
        let w = whole b found r in
        let l = ltb-true k found.maps t in
        let n = name_place b found w k l in
        let g = sym (place_at b found w w.opening w.first k w.head l n.start n.len n.next n.found) ∙ e in
        let here : ◌≡◌ {A = ℕ × ℕ} (n.start, n.len) (start, len) = cc in
        let p : n.start ≡ start = ap (λ (p : ℕ × ℕ). p.0) here in
        let q : n.len ≡ len = ap (λ (p : ℕ × ℕ). p.1) here in
        let m = is_map b n.at n.start n.len n.next n.map in
        record { name_is = rw (← p, ← q) n.name_is; within = omega (arith, m.ends, m.within) }
    go false t =
        let g = sym (place_none b found (whole b found r) k (ltb-false k found.maps t)) ∙ e in
        let z : ◌≡◌ {A = ℕ} 0 1 = cc in absurd (omega arith)
lying_by b (Err f) r k start len e =
    let g = sym (place_refused b k f r) ∙ e in
    let z : ◌≡◌ {A = ℕ} 0 1 = cc in absurd (omega arith)

pub lying : (b : List ℕ) (k start len : ℕ) → place_of b (parse b) k ≡ Ok (Some (start, len)) → Lying b (name_of (parse b) k) start len
lying b = lying_by b (read_unit b) refl

-- whether there is a name
abbrev pub named_at : Result (Option (ℕ × ℕ)) Fault → Result Bool Fault
named_at (Ok place) = Ok (is_some place)
named_at (Err f) = Err f

pub named_at_lem : (b : List ℕ) (p : Parsed) (k : ℕ) → named_of p k ≡ named_at (place_of b p k)
unfolding named_of place_of
named_at_lem b (parsed u) k = go (ltb k (length u.names))
  where
    go : (t : Bool) → pick t (Ok true) (Ok false) ≡ named_at (pick t (Ok (Some (next_at b 0 + map_bytes (take k u.names) + 4, length (get_or u.names k [])))) (Ok None))
    go true = refl
    go false = refl
named_at_lem b (refused f) k = refl

nothing_named : (p : Parsed) (k : ℕ) → named_of p k ≡ Ok false → name_of p k ≡ []
unfolding named_of name_of
nothing_named (parsed u) k =
    pick_ind (λ (x : Result Bool Fault). x ≡ Ok false → get_or u.names k [] ≡ []) (ltb k (length u.names)) _ _
    (λ t e. let z : ◌≡◌ {A = ℕ} 0 1 = cc in absurd (omega arith))
    (λ t e. get_or-eq_default u.names [] {n = k} (ltb-false k (length u.names) t))
nothing_named (refused f) k = λ e. refl

refused_named : (p : Parsed) (k : ℕ) (f : Fault) → named_of p k ≡ Err f → name_of p k ≡ []
unfolding named_of name_of
refused_named (parsed u) k f =
    pick_ind (λ (x : Result Bool Fault). x ≡ Err f → get_or u.names k [] ≡ []) (ltb k (length u.names)) _ _
    (λ t e. let z : ◌≡◌ {A = ℕ} 0 1 = cc in absurd (omega arith))
    (λ t e. let z : ◌≡◌ {A = ℕ} 0 1 = cc in absurd (omega arith))
refused_named (refused g) k f = λ e. refl

-- the part of a lent unit that is a map's name has the name's bytes
named_part : (s : Bor (List ℕ)) (k : ℕ) (p : Result (Option (ℕ × ℕ)) Fault) → place_of s.now (parse s.now) k ≡ p → (part_at s p).bytes ≡ name_of (parse s.now) k
unfolding part_at
named_part s k (Ok (Some (start, len))) e = sym (lying s.now k start len e).name_is
named_part s k (Ok None) e = sym (nothing_named (parse s.now) k (named_at_lem s.now _ k ∙ ap named_at e))
named_part s k (Err f) e = sym (refused_named (parse s.now) k f (named_at_lem s.now _ k ∙ ap named_at e))

pub name_part_lem : (s : Bor (List ℕ)) (k : ℕ) → (name_part s k).bytes ≡ name_of (parse s.now) k
unfolding name_part
name_part_lem s k = named_part s k _ refl
