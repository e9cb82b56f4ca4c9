-- The head of a unit, and what opening the unit answers.
use mathlib.Core.Path.{◌≡◌, refl, ap, ◌∙◌, sym}
use mathlib.Core.List.{List, []}
use Prim.Native.Nat.{ℕ, ◌≤◌}
use native.Mathlib.Omega.{arith}
use borrow.Author.Tests.{leb-true}
use lib.Dec.{leb}
use lib.ListN.{length}
use Rattle.record.proofs.RecordLaws.{head_bounds, record_taken}
use Rattle.record.specs.Frame.{next_at}
use Rattle.record.specs.Record.{read_record}
use Rattle.record.specs.declared.Due.TheVariants as Du
use Rattle.record.specs.declared.Head.{Head}
use Rattle.record.specs.declared.Record.TheVariants as R
use Rattle.record.specs.declared.Fault.{Fault}
use Rattle.record.specs.declared.Fault.TheVariants.{NoHead}
use Rattle.opening.specs.Names.{Names, named, refused, names_at, first_record, opened, shut, with_names, on_head, open_unit}
use Rattle.opening.specs.Places.{head_of, body_of}
use Rattle.opening.specs.Inner.{maps_of}
use Rattle.opening.proofs.Choice.{pick_ind}
use Rattle.record.specs.declared.Record.{Record}
use Rattle.std.specs.Prelude.{Err, Ok, Result}
use Rattle.wire.proofs.Pairs.{ok_parts}

-- ---- the head

head_read : (x : Result (Record × ℕ) Fault) (h : Head) (first : ℕ) → head_of x ≡ Ok (h, first) → x ≡ Ok (R.Head h, first)
unfolding head_of
head_read (Ok (R.Head g, next)) h first e =
    let same = ok_parts e in
    cc (same.0, same.1)
head_read (Ok (R.Map start len, next)) h first e = let z : ◌≡◌ {A = ℕ} 0 1 = cc in absurd (omega arith)
head_read (Ok (R.Block i, next)) h first e = let z : ◌≡◌ {A = ℕ} 0 1 = cc in absurd (omega arith)
head_read (Ok (R.Instruction i, next)) h first e = let z : ◌≡◌ {A = ℕ} 0 1 = cc in absurd (omega arith)
head_read (Ok (R.Terminator i, next)) h first e = let z : ◌≡◌ {A = ℕ} 0 1 = cc in absurd (omega arith)
head_read (Err f) h first e = let z : ◌≡◌ {A = ℕ} 0 1 = cc in absurd (omega arith)

shut_by : (b : List ℕ) (x : Result (Record × ℕ) Fault) (f : Fault) → head_of x ≡ Err f → on_head b x ≡ shut f
unfolding head_of on_head
shut_by b (Ok (R.Head g, next)) f e = let z : ◌≡◌ {A = ℕ} 0 1 = cc in absurd (omega arith)
shut_by b (Ok (R.Map start len, next)) f e = let z : NoHead ≡ f = cc in ap shut z
shut_by b (Ok (R.Block i, next)) f e = let z : NoHead ≡ f = cc in ap shut z
shut_by b (Ok (R.Instruction i, next)) f e = let z : NoHead ≡ f = cc in ap shut z
shut_by b (Ok (R.Terminator i, next)) f e = let z : NoHead ≡ f = cc in ap shut z
shut_by b (Err g) f e = let z : g ≡ f = cc in ap shut z

-- the first record, where it is a head
pub record First (b : List ℕ) (h : Head) (first : ℕ) : Type 0 where
  pub short : length b ≤ 262144
  pub read : read_record b 0 Du.Head 0 ≡ Ok (R.Head h, first)

module _ (b : List ℕ) where
  pub first_is : (h : Head) (first : ℕ) → head_of (first_record b) ≡ Ok (h, first) → First b h first
  unfolding first_record
  first_is h first e =
      pick_ind (λ (x : Result (Record × ℕ) Fault). x ≡ Ok (R.Head h, first) → First b h first) (leb (length b) 262144) _ _
      (λ l r. record { short = leb-true _ _ l; read = r })
      (λ l r. let z : ◌≡◌ {A = ℕ} 0 1 = cc in absurd (omega arith))
      (head_read (first_record b) h first e)

  -- a head that was read tells of 64 maps at most
  pub few_maps : (h : Head) (first : ℕ) → head_of (first_record b) ≡ Ok (h, first) → h.maps ≤ 64
  few_maps h first e = (head_bounds h (record_taken b 0 Du.Head 0 (R.Head h) first (first_is h first e).read).came).maps

  -- the byte after the head
  pub after_head : (h : Head) (first : ℕ) → head_of (first_record b) ≡ Ok (h, first) → first ≡ next_at b 0
  after_head h first e = (record_taken b 0 Du.Head 0 (R.Head h) first (first_is h first e).read).ends

  -- ---- the head and the maps

  pub open_head : (h : Head) (first : ℕ) → head_of (first_record b) ≡ Ok (h, first) → open_unit b ≡ with_names h (names_at b [] first h.maps)
  unfolding open_unit on_head
  open_head h first e = ap (on_head b) (head_read (first_record b) h first e)

  pub open_shut : (f : Fault) → head_of (first_record b) ≡ Err f → open_unit b ≡ shut f
  unfolding open_unit
  open_shut = shut_by b (first_record b)

pub body_of_none : (b : List ℕ) (h : Head) (first : ℕ) → h.maps ≡ 0 → body_of (with_names h (names_at b [] first h.maps)) ≡ Ok (h, first)
unfolding names_at with_names body_of
body_of_none b h first e = rw e refl

pub body_until : (h : Head) (n : Names) (at : ℕ) → maps_of n ≡ Ok at → body_of (with_names h n) ≡ Ok (h, at)
unfolding maps_of with_names body_of
body_until h (named names to) at e = let z : to ≡ at = cc in ap (λ (n : ℕ). Ok (h, n)) z
body_until h (refused f) at e = let z : ◌≡◌ {A = ℕ} 0 1 = cc in absurd (omega arith)

pub body_refused : (h : Head) (n : Names) (f : Fault) → maps_of n ≡ Err f → body_of (with_names h n) ≡ Err f
unfolding maps_of with_names body_of
body_refused h (named names to) f e = let z : ◌≡◌ {A = ℕ} 0 1 = cc in absurd (omega arith)
body_refused h (refused g) f e = let z : g ≡ f = cc in ap Err z

-- ---- a unit that was opened

module _ (b : List ℕ) where
  -- its head and its maps were read
  pub record OpenedAt (h : Head) (names : List (List ℕ)) (at : ℕ) : Type 0 where
    pub first : ℕ
    pub head : head_of (first_record b) ≡ Ok (h, first)
    pub maps : names_at b [] first h.maps ≡ named names at

  names_by : (g : Head) (n : Names) (h : Head) (names : List (List ℕ)) (at : ℕ) → with_names g n ≡ opened h names at → (g ≡ h) × (n ≡ named names at)
  unfolding with_names
  names_by g (named ns to) h names at e =
      let p : g ≡ h = cc in
      let q : ns ≡ names = cc in
      let r : to ≡ at = cc in
      (p, cc)
  names_by g (refused f) h names at e = let z : ◌≡◌ {A = ℕ} 0 1 = cc in absurd (omega arith)

  opened_by : (x : Result (Head × ℕ) Fault) → head_of (first_record b) ≡ x → (h : Head) (names : List (List ℕ)) (at : ℕ) → open_unit b ≡ opened h names at → OpenedAt h names at
  opened_by (Ok (g, first)) p h names at e =
      let n = names_by g (names_at b [] first g.maps) h names at (sym (open_head b g first p) ∙ e) in
      let q = n.0 in
      let m = n.1 in
      record { first = first; head = p ∙ ap (λ (y : Head). Ok (y, first)) q; maps = ap (λ (y : Head). names_at b [] first y.maps) (sym q) ∙ m }
  opened_by (Err f) p h names at e =
      let q = sym (open_shut b f p) ∙ e in
      let z : ◌≡◌ {A = ℕ} 0 1 = cc in absurd (omega arith)

  pub opened_at : (h : Head) (names : List (List ℕ)) (at : ℕ) → open_unit b ≡ opened h names at → OpenedAt h names at
  opened_at = opened_by (head_of (first_record b)) refl
