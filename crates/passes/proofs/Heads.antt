-- The head's count of blocks stands at byte 8 of a unit, so that it is known before anything is read.
use mathlib.Core.Path.{◌≡◌, refl, sym, ap, ◌∙◌}
use mathlib.Core.Bool.{Bool, true, false}
use mathlib.Core.List.{List}
use Prim.Native.Nat.{ℕ, ◌≤◌}
use native.Mathlib.Omega.{arith}
use borrow.Author.Tests.{eqb-true, le-leb}
use lib.Dec.{eqb}
use lib.ListN.{length}
use mir.Syntax.{w32}
use Rattle.wire.specs.Pick.{pick, both}
use Rattle.wire.specs.Le.{unsigned_at}
use Rattle.record.specs.Frame.{length_at, kind_at}
use Rattle.record.specs.Payload.{head_in, head_ok, payload_at}
use Rattle.record.specs.Record.{kind_due, read_record}
use Rattle.record.specs.declared.Due.TheVariants as Du
use Rattle.record.specs.declared.Head.{Head}
use Rattle.record.specs.declared.Record.TheVariants as R
use Rattle.record.proofs.RecordLaws.{Taken, record_taken}
use Rattle.opening.specs.Places.{head_of}
use Rattle.opening.specs.Names.{first_record}
use Rattle.unitfile.specs.Unit.{parse, read_unit}
use Rattle.unitfile.specs.declared.Found.{Found}
use Rattle.unitfile.proofs.Units.{unit_of}
use Rattle.unitfile.proofs.Whole.{whole, refused_whole}
use Rattle.survey.specs.Surveyed.{blocks_of}
use Rattle.survey.proofs.Bounds.{blocks_count}
use Rattle.record.specs.declared.Fault.{Fault}
use Rattle.record.specs.declared.Record.{Record}
use Rattle.std.specs.Prelude.{Err, None, Ok, Result, Some}
use Rattle.wire.proofs.Pairs.{ok_parts}

module _ (b : List ℕ) where
  picked_head : (t : Bool) (h : Head) → pick t (Some (R.Head (head_in b 4))) None ≡ Some (R.Head h) → h.blocks ≡ unsigned_at w32 b 8
  unfolding head_in
  picked_head true h e = let z : head_in b 4 ≡ h = cc in ap (λ (x : Head). x.blocks) (sym z)
  picked_head false h e = let z : ◌≡◌ {A = ℕ} 0 1 = cc in absurd (omega arith)

  taken_head : (h : Head) (next : ℕ) → Taken b 0 Du.Head 0 (R.Head h) next → h.blocks ≡ unsigned_at w32 b 8
  unfolding kind_due payload_at
  taken_head h next t =
      let kind : kind_at b 0 ≡ 1 = eqb-true _ 1 t.kind in
      picked_head (both (eqb (length_at b 0) 8) (head_ok (head_in b 4))) h (rw kind at t.payload)

  head_by : (x : Result (Record × ℕ) Fault) → read_record b 0 Du.Head 0 ≡ x → (h : Head) (first : ℕ) → head_of x ≡ Ok (h, first) → h.blocks ≡ unsigned_at w32 b 8
  unfolding head_of
  head_by (Ok (R.Head g, next)) r h first e =
      let p : g ≡ h = (ok_parts e).0 in
      ap (λ (x : Head). x.blocks) (sym p) ∙ taken_head g next (record_taken b 0 Du.Head 0 (R.Head g) next r)
  head_by (Ok (R.Map start len, next)) r h first e = let z : ◌≡◌ {A = ℕ} 0 1 = cc in absurd (omega arith)
  head_by (Ok (R.Block i, next)) r h first e = let z : ◌≡◌ {A = ℕ} 0 1 = cc in absurd (omega arith)
  head_by (Ok (R.Instruction i, next)) r h first e = let z : ◌≡◌ {A = ℕ} 0 1 = cc in absurd (omega arith)
  head_by (Ok (R.Terminator i, next)) r h first e = let z : ◌≡◌ {A = ℕ} 0 1 = cc in absurd (omega arith)
  head_by (Err f) r h first e = let z : ◌≡◌ {A = ℕ} 0 1 = cc in absurd (omega arith)

  first_read : length b ≤ 262144 → first_record b ≡ read_record b 0 Du.Head 0
  unfolding first_record
  first_read h = rw (le-leb (length b) 262144 h)

  pub head_blocks : (found : Found) → read_unit b ≡ Ok found → found.blocks ≡ unsigned_at w32 b 8
  head_blocks found e =
      let w = whole b found e in
      sym w.blocks_are ∙ head_by (read_record b 0 Du.Head 0) refl w.opening w.first (ap head_of (sym (first_read (unit_of b found e).short)) ∙ w.head)

  blocks_by : (n : ℕ) → unsigned_at w32 b 8 ≤ n → (x : Result Found Fault) → read_unit b ≡ x → length (blocks_of (parse b)) ≤ n
  unfolding blocks_of
  blocks_by n h (Ok found) e = omega (arith, h, blocks_count b found e, head_blocks found e)
  blocks_by n h (Err f) e = rw (refused_whole b f e) (omega arith)

  -- no more blocks than are counted there
  pub blocks_most : (n : ℕ) → unsigned_at w32 b 8 ≤ n → length (blocks_of (parse b)) ≤ n
  blocks_most n h = blocks_by n h (read_unit b) refl
