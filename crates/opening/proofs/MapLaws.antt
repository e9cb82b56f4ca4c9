-- The maps of a unit, one after the other: the names that were read, where each lies, and that no name comes twice.
use mathlib.Core.Path.{◌≡◌, refl, ap, ◌∙◌, sym}
use mathlib.Core.Bool.{Bool, true, false}
use mathlib.Core.List.{List, [], ◌∷◌, ◌++◌}
use Prim.Native.Nat.{ℕ, zero, suc, ◌+◌, ◌-◌, ◌<◌, ◌≤◌}
use native.Mathlib.Nat.{add-zero, zero-add, suc-add}
use native.Mathlib.Omega.{arith}
use borrow.Author.Tests.{ltb-true, ltb-false, le-leb}
use lib.Dec.{leb, ltb}
use lib.ListN.{length, get_or, take, drop, length-append, length-drop, get_or-append}
use lib.Seq.{get_or-append_seam, take_all, take-take, take-append_seam, length-take-le}
use Rattle.wire.specs.Pick.{pick}
use Rattle.record.specs.Frame.{length_at, whole_at, next_at}
use Rattle.record.specs.Record.{read_record}
use Rattle.recordcheck.specs.Checked.{checked_of}
use Rattle.record.specs.declared.Record.TheVariants as R
use Rattle.record.specs.declared.Due.TheVariants as Du
use Rattle.record.specs.declared.Fault.{Fault}
use Rattle.record.specs.declared.Fault.TheVariants.{Broken}
use Rattle.opening.specs.Names.{same_name, among, part, Names, named, refused, on_map, names_at, Distinct}
use Rattle.opening.specs.Places.{map_of, map_at, on_map_at, map_from}
use Rattle.opening.specs.Inner.{Lies, taken_from, one_more}
use Rattle.opening.specs.declared.MapAt.{MapAt}
use Rattle.record.proofs.RecordLaws.{record_taken}
use Rattle.opening.proofs.Choice.{pick_ind}
use Rattle.opening.proofs.Same.{among_more, among_at}
use Rattle.record.specs.declared.Record.{Record}
use Rattle.std.specs.Prelude.{Err, Ok, Result}
use Rattle.wire.proofs.Pairs.{ok_parts}

-- ---- one map's record

-- what a map's record at a byte says: its name is its payload, and lies in b
pub record IsMap (b : List ℕ) (at start len next : ℕ) : Type 0 where
  pub read : read_record b at Du.Map 0 ≡ Ok (R.Map start len, next)
  pub begins : start ≡ at + 4
  pub ends : next ≡ start + len
  pub within : next ≤ length b
  pub short : len ≤ 64
  pub whole : whole_at b at ≡ true
  pub length : length_at b at ≡ len
  pub after : next_at b at ≡ next

module _ (b : List ℕ) (at : ℕ) where
  is_map_by : (x : Result (Record × ℕ) Fault) → read_record b at Du.Map 0 ≡ x → (start len next : ℕ) → map_of at x ≡ Ok (record { start = start; len = len; next = next }) → read_record b at Du.Map 0 ≡ Ok (R.Map start len, next)
  unfolding map_of
  is_map_by (Ok (R.Map s l, n)) h start len next e =
      let w : ◌≡◌ {A = MapAt} (record { start = s; len = l; next = n }) (record { start = start; len = len; next = next }) = cc in
      h ∙ ap (λ (m : MapAt). Ok (R.Map m.start m.len, m.next)) w
  is_map_by (Ok (R.Head x, n)) h start len next e = let z : ◌≡◌ {A = ℕ} 0 1 = cc in absurd (omega arith)
  is_map_by (Ok (R.Block x, n)) h start len next e = let z : ◌≡◌ {A = ℕ} 0 1 = cc in absurd (omega arith)
  is_map_by (Ok (R.Instruction x, n)) h start len next e = let z : ◌≡◌ {A = ℕ} 0 1 = cc in absurd (omega arith)
  is_map_by (Ok (R.Terminator x, n)) h start len next e = let z : ◌≡◌ {A = ℕ} 0 1 = cc in absurd (omega arith)
  is_map_by (Err f) h start len next e = let z : ◌≡◌ {A = ℕ} 0 1 = cc in absurd (omega arith)

  pub is_map : (start len next : ℕ) → map_at b at ≡ Ok (record { start = start; len = len; next = next }) → IsMap b at start len next
  unfolding map_at whole_at next_at
  is_map start len next e =
      let r = is_map_by (read_record b at Du.Map 0) refl start len next e in
      let t = record_taken b at Du.Map 0 (R.Map start len) next r in
      let m = t.came in
      record {
        read = r;
        begins = m.0;
        ends = omega arith;
        within = t.within;
        short = m.1.1;
        whole = rw (le-leb (at + 4) (length b) (omega (arith, t.within, t.later)), le-leb (at + 4 + length_at b at) (length b) (omega (arith, t.within, t.ends))) refl;
        length = omega (arith, t.ends, m.0, m.1.0);
        after = sym t.ends;
      }

  -- a record that was checked as a map's
  pub record MapChecked (next : ℕ) : Type 0 where
    pub map : map_at b at ≡ Ok (record { start = at + 4; len = next - (at + 4); next = next })
    pub later : at + 4 ≤ next
    pub within : next ≤ length b

  checked_by_lem : (x : Result (Record × ℕ) Fault) → read_record b at Du.Map 0 ≡ x → (kind next : ℕ) → checked_of x ≡ Ok (kind, next) → MapChecked next
  unfolding checked_of map_at map_of
  checked_by_lem (Ok (R.Map from len, n)) h kind next e =
      let t = record_taken b at Du.Map 0 (R.Map from len) n h in
      let m = t.came in
      let z : n ≡ next = (ok_parts e).1 in
      let l : len ≡ next - (at + 4) = omega (arith, z, m.0, m.1.0) in
      record { map = rw (h, m.0, l, z) refl; later = omega (arith, t.later, z); within = omega (arith, t.within, z) }
  checked_by_lem (Ok (R.Head x, n)) h kind next e = absurd (record_taken b at Du.Map 0 (R.Head x) n h).came
  checked_by_lem (Ok (R.Block x, n)) h kind next e = absurd (record_taken b at Du.Map 0 (R.Block x) n h).came
  checked_by_lem (Ok (R.Instruction x, n)) h kind next e = absurd (record_taken b at Du.Map 0 (R.Instruction x) n h).came
  checked_by_lem (Ok (R.Terminator x, n)) h kind next e = absurd (record_taken b at Du.Map 0 (R.Terminator x) n h).came
  checked_by_lem (Err f) h kind next e = let z : ◌≡◌ {A = ℕ} 0 1 = cc in absurd (omega arith)

  pub map_checked : (kind next : ℕ) → checked_of (read_record b at Du.Map 0) ≡ Ok (kind, next) → MapChecked next
  map_checked = checked_by_lem _ refl

  refused_by_check : (x : Result (Record × ℕ) Fault) → read_record b at Du.Map 0 ≡ x → (f : Fault) → checked_of x ≡ Err f → map_of at x ≡ Err f
  unfolding checked_of map_of
  refused_by_check (Ok (r, n)) h f e = let z : ◌≡◌ {A = ℕ} 0 1 = cc in absurd (omega arith)
  refused_by_check (Err g) h f e = let z : g ≡ f = cc in ap Err z

  pub map_refused : (f : Fault) → checked_of (read_record b at Du.Map 0) ≡ Err f → map_at b at ≡ Err f
  unfolding map_at
  map_refused f e = refused_by_check _ refl f e

pub lies_at : (n : ℕ) (m : Result MapAt Fault) (start len next : ℕ) → m ≡ Ok (record { start = start; len = len; next = next }) → Lies n m → start + len ≤ n
unfolding Lies
lies_at n m start len next e h = rw e at h

-- ---- the maps from a byte on

-- what a map's record does to the names before it
by_map : List ℕ → List (List ℕ) → ℕ → Result MapAt Fault → (List (List ℕ) → ℕ → Names) → Names
by_map b names at (Ok m) go = pick (among (part m.start m.len b) names) (refused (Broken at)) (go (names ++ (part m.start m.len b ∷ [])) m.next)
by_map b names at (Err f) go = refused f

on_map_lem : (b : List ℕ) (names : List (List ℕ)) (at : ℕ) (x : Result (Record × ℕ) Fault) (go : List (List ℕ) → ℕ → Names) → on_map b names at x go ≡ by_map b names at (map_of at x) go
unfolding on_map map_of by_map
on_map_lem b names at (Ok (R.Map start len, next)) go = refl
on_map_lem b names at (Ok (R.Head x, next)) go = refl
on_map_lem b names at (Ok (R.Block x, next)) go = refl
on_map_lem b names at (Ok (R.Instruction x, next)) go = refl
on_map_lem b names at (Ok (R.Terminator x, next)) go = refl
on_map_lem b names at (Err f) go = refl

names_step : (b : List ℕ) (names : List (List ℕ)) (at k : ℕ) → names_at b names at (suc k) ≡ by_map b names at (map_at b at) (λ more next. names_at b more next k)
unfolding names_at map_at
names_step b names at k = on_map_lem b names at (read_record b at Du.Map 0) (λ more next. names_at b more next k)

-- where maps were read, the first of them was: its name is none of those before it
pub record ReadOne (b : List ℕ) (names : List (List ℕ)) (at k : ℕ) (all : List (List ℕ)) (end : ℕ) : Type 0 where
  pub start : ℕ
  pub len : ℕ
  pub next : ℕ
  pub map : map_at b at ≡ Ok (record { start = start; len = len; next = next })
  pub fresh : among (part start len b) names ≡ false
  pub rest : names_at b (names ++ (part start len b ∷ [])) next k ≡ named all end

read_by : (b : List ℕ) (names : List (List ℕ)) (at k : ℕ) (all : List (List ℕ)) (end : ℕ) (m : Result MapAt Fault) → map_at b at ≡ m → by_map b names at m (λ more next. names_at b more next k) ≡ named all end → ReadOne b names at k all end
unfolding by_map
read_by b names at k all end (Ok m) h =
    pick_ind (λ (x : Names). x ≡ named all end → ReadOne b names at k all end) (among (part m.start m.len b) names) _ _
    (λ t e. let z : ◌≡◌ {A = ℕ} 0 1 = cc in absurd (omega arith))
    (λ t e. record { start = m.start; len = m.len; next = m.next; map = h; fresh = t; rest = e })
read_by b names at k all end (Err f) h = λ e. let z : ◌≡◌ {A = ℕ} 0 1 = cc in absurd (omega arith)

pub read_one : (b : List ℕ) (names : List (List ℕ)) (at k : ℕ) (all : List (List ℕ)) (end : ℕ) → names_at b names at (suc k) ≡ named all end → ReadOne b names at k all end
read_one b names at k all end e = read_by b names at k all end (map_at b at) refl (sym (names_step b names at k) ∙ e)

-- j maps, and then k more
names_add : (b : List ℕ) (j k : ℕ) (names : List (List ℕ)) (at : ℕ) (more : List (List ℕ)) (then : ℕ) → names_at b names at j ≡ named more then → names_at b names at (j + k) ≡ names_at b more then k
unfolding names_at by_map
names_add b zero k names at more then e =
    let p : names ≡ more = cc in
    let q : at ≡ then = cc in
    rw zero-add (cc)
names_add b (suc j) k names at more then e =
    let r = read_one b names at j more then e in
    rw suc-add (names_step b names at (j + k) ∙ rw (r.map, r.fresh) (names_add b j k _ r.next more then r.rest))

-- the names that were read are as many as the maps
pub names_count : (b : List ℕ) (k : ℕ) (names : List (List ℕ)) (at : ℕ) (all : List (List ℕ)) (end : ℕ) → names_at b names at k ≡ named all end → length all ≡ length names + k
unfolding names_at
names_count b zero names at all end e =
    let z : names ≡ all = cc in
    let n = ap length z in
    omega arith
names_count b (suc k) names at all end e =
    let r = read_one b names at k all end e in
    let n = names_count b k _ r.next all end r.rest in
    let m = length-append names (part r.start r.len b ∷ []) in
    omega arith

-- and they end in the bytes
pub names_within : (b : List ℕ) (k : ℕ) (names : List (List ℕ)) (at : ℕ) (all : List (List ℕ)) (end : ℕ) → names_at b names at k ≡ named all end → at ≤ length b → end ≤ length b
unfolding names_at
names_within b zero names at all end e h = let z : at ≡ end = cc in omega arith
names_within b (suc k) names at all end e h =
    let r = read_one b names at k all end e in
    names_within b k _ r.next all end r.rest (is_map b at r.start r.len r.next r.map).within

-- ---- a name among those of the maps from a byte on

pick_some : (s t : Bool) (x : Bool) → pick (pick s true t) true x ≡ pick s true (pick t true x)
pick_some true t x = refl
pick_some false t x = refl

pick_none : (s : Bool) → s ≡ pick s true false
pick_none true = refl
pick_none false = refl

taken_map : (b name : List ℕ) (at k start len next : ℕ) → map_at b at ≡ Ok (record { start = start; len = len; next = next }) → taken_from b name at (suc k) ≡ pick (same_name name (part start len b)) true (taken_from b name next k)
unfolding taken_from
taken_map b name at k start len next e =
    let m = is_map b at start len next e in
    rw (m.whole, m.length, m.after, m.begins) refl

-- the code finds it by walking over them again
pub taken_among : (b name : List ℕ) (k : ℕ) (names : List (List ℕ)) (at : ℕ) (all : List (List ℕ)) (end : ℕ) → names_at b names at k ≡ named all end → among name all ≡ pick (among name names) true (taken_from b name at k)
unfolding names_at taken_from
taken_among b name zero names at all end e =
    let z : names ≡ all = cc in
    ap (among name) (sym z) ∙ pick_none (among name names)
taken_among b name (suc k) names at all end e =
    let r = read_one b names at k all end e in
    taken_among b name k _ r.next all end r.rest
    ∙ rw (among_more name names (part r.start r.len b)) (pick_some (among name names) _ _)
    ∙ ap (λ (x : Bool). pick (among name names) true x) (sym (taken_map b name at k r.start r.len r.next r.map))

module _ (b name : List ℕ) (at : ℕ) where
  pub taken_step : (k i len : ℕ) → i < k → len ≡ length_at b at → pick (leb (at + 4) (length b)) (leb (at + 4 + len) (length b)) false ≡ true → taken_from b name at (k - i) ≡ pick (same_name name (part (at + 4) len b)) true (taken_from b name (at + 4 + len) (k - (i + 1)))
  unfolding taken_from whole_at next_at
  taken_step k i len h l e = let m : k - i ≡ suc (k - (i + 1)) = omega arith in rw (m, ← l, e) refl

  pub taken_stop : (n len : ℕ) → len ≡ length_at b at → pick (leb (at + 4) (length b)) (leb (at + 4 + len) (length b)) false ≡ false → taken_from b name at n ≡ false
  unfolding taken_from whole_at
  taken_stop zero len l e = refl
  taken_stop (suc n) len l e = rw (← l, e) refl

module _ (b : List ℕ) (at : ℕ) where
  pub from_step : (k i start len next : ℕ) → i < k → map_at b at ≡ Ok (record { start = start; len = len; next = next }) → map_from b at (k - i) ≡ map_from b next (k - (i + 1))
  unfolding map_from on_map_at
  from_step k i start len next h e = let m : k - i ≡ suc (k - (i + 1)) = omega arith in rw (m, e)

  pub from_stop : (n : ℕ) (f : Fault) → map_at b at ≡ Err f → map_from b at n ≡ Err f
  unfolding map_from on_map_at
  from_stop zero f e = e
  from_stop (suc n) f e = rw e refl

-- ---- reading the maps one by one, from the first on

-- k maps were read, up to a byte
pub record Reached (b : List ℕ) (first k at : ℕ) : Type 0 where
  pub names : List (List ℕ)
  pub read : names_at b [] first k ≡ named names at

refused_at_lem : (t : Bool) (at n : ℕ) (f : Fault) (x : Names) → pick t (Err (Broken at)) (Ok n) ≡ Err f → pick t (refused (Broken at)) x ≡ refused f
refused_at_lem true at n f x e = let z : Broken at ≡ f = cc in ap refused z
refused_at_lem false at n f x e = let z : ◌≡◌ {A = ℕ} 0 1 = cc in absurd (omega arith)

until_at : (t : Bool) (at n next : ℕ) → pick t (Err (Broken at)) (Ok n) ≡ Ok next → (t ≡ false) × (n ≡ next)
until_at true at n next e = let z : ◌≡◌ {A = ℕ} 0 1 = cc in absurd (omega arith)
until_at false at n next e = (refl, cc)

module _ (b : List ℕ) (first k at : ℕ) (r : Reached b first k at) where
  pub taken_is : (name : List ℕ) → taken_from b name first k ≡ among name r.names
  unfolding among
  taken_is name = sym (taken_among b name k [] first r.names at r.read)

  -- the map that was read next
  pub record ReadNext (next : ℕ) : Type 0 where
    pub start : ℕ
    pub len : ℕ
    pub map : map_at b at ≡ Ok (record { start = start; len = len; next = next })
    pub read : names_at b [] first (k + 1) ≡ named (r.names ++ (part start len b ∷ [])) next

  until_by : (m : Result MapAt Fault) (next : ℕ) → map_at b at ≡ m → one_more b first k at m ≡ Ok next → ReadNext next
  unfolding one_more by_map names_at
  until_by (Ok m) next h e =
      let u = until_at (among (part m.start m.len b) r.names) at m.next next (rw (taken_is (part m.start m.len b)) at e) in
      record {
        start = m.start;
        len = m.len;
        map = h ∙ ap (λ (n : ℕ). Ok (record { start = m.start; len = m.len; next = n })) u.1;
        read = names_add b k 1 [] first r.names at r.read ∙ names_step b r.names at 0 ∙ rw (h, u.0, u.1);
      }
  until_by (Err f) next h e = let z : ◌≡◌ {A = ℕ} 0 1 = cc in absurd (omega arith)

  refused_by : (j : ℕ) (m : Result MapAt Fault) (f : Fault) → one_more b first k at m ≡ Err f → by_map b r.names at m (λ more next. names_at b more next j) ≡ refused f
  unfolding one_more by_map
  refused_by j (Ok m) f e = refused_at_lem (among (part m.start m.len b) r.names) at m.next f _ (rw (taken_is (part m.start m.len b)) at e)
  refused_by j (Err g) f e = let z : g ≡ f = cc in ap refused z

  pub read_next : (next : ℕ) → one_more b first k at (map_at b at) ≡ Ok next → ReadNext next
  read_next next e = until_by (map_at b at) next refl e

  pub reached_refused : (maps : ℕ) (f : Fault) → k < maps → one_more b first k at (map_at b at) ≡ Err f → names_at b [] first maps ≡ refused f
  reached_refused maps f h e =
      let j = maps - k - 1 in
      let m : maps ≡ k + suc j = omega arith in
      rw m (names_add b k (suc j) [] first r.names at r.read ∙ names_step b r.names at j ∙ refused_by j (map_at b at) f e)

-- ---- the name of a map, by its number

-- the names before stay
pub names_kept : (b : List ℕ) (k : ℕ) (names : List (List ℕ)) (at : ℕ) (all : List (List ℕ)) (end i : ℕ) → names_at b names at k ≡ named all end → i < length names → get_or all i [] ≡ get_or names i []
unfolding names_at
names_kept b zero names at all end i e h = let z : names ≡ all = cc in ap (λ (l : List (List ℕ)). get_or l i []) (sym z)
names_kept b (suc k) names at all end i e h =
    let r = read_one b names at k all end e in
    let name = part r.start r.len b in
    let m = length-append names (name ∷ []) in
    names_kept b k (names ++ (name ∷ [])) r.next all end i r.rest (omega arith) ∙ get_or-append names (name ∷ []) [] i h

-- where the name of map k lies
pub record NameAt (b : List ℕ) (first k : ℕ) (name : List ℕ) : Type 0 where
  pub at : ℕ
  pub start : ℕ
  pub len : ℕ
  pub next : ℕ
  pub map : map_at b at ≡ Ok (record { start = start; len = len; next = next })
  pub found : map_from b first k ≡ Ok (record { start = start; len = len; next = next })
  pub name_is : name ≡ part start len b

pub name_at : (b : List ℕ) (n k : ℕ) (names : List (List ℕ)) (at : ℕ) (all : List (List ℕ)) (end : ℕ) → names_at b names at n ≡ named all end → k < n → NameAt b at k (get_or all (length names + k) [])
unfolding map_from on_map_at
name_at b zero k names at all end e h = absurd (omega arith)
name_at b (suc n) zero names at all end e h =
    let r = read_one b names at n all end e in
    let name = part r.start r.len b in
    let m = length-append names (name ∷ []) in
    record {
      at = at;
      start = r.start;
      len = r.len;
      next = r.next;
      map = r.map;
      found = r.map;
      name_is = rw add-zero (names_kept b n (names ++ (name ∷ [])) r.next all end (length names) r.rest (omega arith) ∙ get_or-append_seam names name [] []);
    }
name_at b (suc n) (suc k) names at all end e h =
    let r = read_one b names at n all end e in
    let name = part r.start r.len b in
    let q = name_at b n k (names ++ (name ∷ [])) r.next all end r.rest (omega arith) in
    let m = length-append names (name ∷ []) in
    let i : length names + suc k ≡ length (names ++ (name ∷ [])) + k = omega arith in
    record {
      at = q.at;
      start = q.start;
      len = q.len;
      next = q.next;
      map = q.map;
      found = rw r.map q.found;
      name_is = ap (λ (x : ℕ). get_or all x []) i ∙ q.name_is;
    }

-- ---- the names before it, and its length

-- a name that lies in the bytes has its length
pub part_length : (start len : ℕ) (b : List ℕ) → start + len ≤ length b → length (part start len b) ≡ len
part_length start len b h = length-take-le len (drop start b) (simp length-drop (omega arith))

-- the names before come first
pub names_front : (b : List ℕ) (n : ℕ) (names : List (List ℕ)) (at : ℕ) (all : List (List ℕ)) (end : ℕ) → names_at b names at n ≡ named all end → take (length names) all ≡ names
unfolding names_at
names_front b zero names at all end e =
    let z : names ≡ all = cc in
    ap (take (length names)) (sym z) ∙ take_all (length names) names (omega arith)
names_front b (suc n) names at all end e =
    let r = read_one b names at n all end e in
    let name = part r.start r.len b in
    let m = length-append names (name ∷ []) in
    sym (take-take (length names) (length (names ++ (name ∷ []))) all (omega arith))
    ∙ ap (take (length names)) (names_front b n (names ++ (name ∷ [])) r.next all end r.rest)
    ∙ take-append_seam names (name ∷ [])

-- ---- no name twice

more_distinct : (names : List (List ℕ)) (name : List ℕ) → Distinct names → among name names ≡ false → Distinct (names ++ (name ∷ []))
more_distinct names name d f = record { apart = λ i j h l. go i j h (rw length-append at l) (ltb j (length names)) refl }
  where
    go : (i j : ℕ) → i < j → j < length names + 1 → (t : Bool) → ltb j (length names) ≡ t → get_or (names ++ (name ∷ [])) i [] ≡ get_or (names ++ (name ∷ [])) j [] → ⊥
    go i j h l true b e =
        let k = ltb-true j (length names) b in
        d.apart i j h k (sym (get_or-append names (name ∷ []) [] i (omega arith)) ∙ e ∙ get_or-append names (name ∷ []) [] j k)
    go i j h l false b e =
        let k = ltb-false j (length names) b in
        let m : j ≡ length names = omega arith in
        let at_end = ap (λ (x : ℕ). get_or (names ++ (name ∷ [])) x []) m ∙ get_or-append_seam names name [] [] in
        let there = among_at name names i (omega arith) (sym (get_or-append names (name ∷ []) [] i (omega arith)) ∙ e ∙ at_end) in
        let z : ◌≡◌ {A = ℕ} 0 1 = cc in omega arith

pub names_distinct : (b : List ℕ) (k : ℕ) (names : List (List ℕ)) (at : ℕ) (all : List (List ℕ)) (end : ℕ) → names_at b names at k ≡ named all end → Distinct names → Distinct all
unfolding names_at
names_distinct b zero names at all end e d = let z : names ≡ all = cc in rw z at d
names_distinct b (suc k) names at all end e d =
    let r = read_one b names at k all end e in
    names_distinct b k _ r.next all end r.rest (more_distinct names _ d r.fresh)
