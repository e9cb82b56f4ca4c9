-- What is found from a record on where the record is only checked: it is what is found from the next one on, or the refusal.
use mathlib.Core.Path.{◌≡◌, refl, ap, ◌∙◌}
use mathlib.Core.Bool.{Bool, true, false}
use mathlib.Core.List.{List}
use Prim.Native.Nat.{ℕ, suc, ◌+◌, ◌-◌, ◌<◌, ◌≤◌}
use native.Mathlib.Omega.{arith}
use borrow.Author.Tests.{eq-eqb, ne_eqb}
use lib.Dec.{eqb}
use lib.ListN.{length}
use Rattle.record.specs.Payload.{kind_of}
use Rattle.record.specs.Record.{read_record}
use Rattle.record.specs.declared.Due.{Due}
use Rattle.record.specs.declared.Due.TheVariants as Du
use Rattle.record.specs.declared.Fault.{Fault}
use Rattle.record.specs.declared.Fault.TheVariants.{NotDue}
use Rattle.record.specs.declared.Record.{Record}
use Rattle.record.specs.declared.Record.TheVariants as R
use Rattle.record.proofs.RecordLaws.{Came, record_taken}
use Rattle.recordcheck.specs.Checked.{checked_of}
use Rattle.unitfile.specs.Inner.{found_with, on_end}
use Rattle.unitfile.specs.Records.{Cursor, in_block, at_block, go, stop, after, on_record, next_record, records_from}
use Rattle.unitfile.specs.declared.Found.{Found}
use Rattle.unitfile.proofs.Run.{on_go, on_end_lem, on_refused}
use Rattle.unitfile.proofs.Whole.{found_cons}
use Rattle.std.specs.Prelude.{Err, Ok, Result}
use Rattle.wire.proofs.Pairs.{ok_parts}

-- ---- the record that was checked

-- a record that goes on ends after it begins, and within the bytes
pub record Passed (b : List ℕ) (at next : ℕ) : Type 0 where
  pub later : at + 4 ≤ next
  pub within : next ≤ length b

module _ (b : List ℕ) (at : ℕ) (due : Due) (maps : ℕ) where
  passed_by : (x : Result (Record × ℕ) Fault) → read_record b at due maps ≡ x → (kind next : ℕ) → checked_of x ≡ Ok (kind, next) → Passed b at next
  unfolding checked_of
  passed_by (Ok (r, n)) h kind next e =
      let t = record_taken b at due maps r n h in
      let z : n ≡ next = (ok_parts e).1 in
      record { later = omega (arith, t.later, z); within = omega (arith, t.within, z) }
  passed_by (Err f) h kind next e = let z : ◌≡◌ {A = ℕ} 0 1 = cc in absurd (omega arith)

  pub passed : (kind next : ℕ) → checked_of (read_record b at due maps) ≡ Ok (kind, next) → Passed b at next
  passed = passed_by _ refl

-- ---- what is found from it on

module _ (found : Found) (b : List ℕ) (maps : ℕ) where
  by_step : (c d : Cursor) (r : Record) → next_record b maps c ≡ go r d → found_with found (records_from b maps c) ≡ found_with found (records_from b maps d)
  by_step c d r e = ap (found_with found) (on_go b maps c r d e) ∙ found_cons found _ _

  by_refusal : (c : Cursor) (f : Fault) → next_record b maps c ≡ stop f → found_with found (records_from b maps c) ≡ Err f
  unfolding found_with
  by_refusal c f e = rw (on_refused b maps c f e) refl

  module _ (at blocks : ℕ) where
    -- ---- inside a block: a record that is no instruction ends it

    inside_after : (start : ℕ) (r : Record) (n : ℕ) → Came maps start n Du.Inside r → after (in_block at blocks) (kind_of r) n ≡ record { at = n; blocks = blocks; inside = eqb (kind_of r) 4 }
    unfolding after kind_of
    inside_after start (R.Head h) n k = absurd k
    inside_after start (R.Map from len) n k = absurd k
    inside_after start (R.Block id) n k = absurd k
    inside_after start (R.Instruction i) n k = refl
    inside_after start (R.Terminator t) n k = refl

    inside_by : (x : Result (Record × ℕ) Fault) → read_record b at Du.Inside maps ≡ x → (kind next : ℕ) → checked_of x ≡ Ok (kind, next) → (t : Bool) → eqb kind 4 ≡ t → found_with found (records_from b maps (in_block at blocks)) ≡ found_with found (records_from b maps (record { at = next; blocks = blocks; inside = t }))
    unfolding checked_of next_record on_record
    inside_by (Ok (r, n)) h kind next e t q =
        let k : kind_of r ≡ kind = (ok_parts e).0 in
        let z : n ≡ next = (ok_parts e).1 in
        let d = inside_after (at + 4) r n (record_taken b at Du.Inside maps r n h).came in
        rw (← z, ← q, ← k) (by_step (in_block at blocks) _ r (rw h (ap (go r) d)))
    inside_by (Err f) h kind next e t q = let z : ◌≡◌ {A = ℕ} 0 1 = cc in absurd (omega arith)

    pub instruction_passed : (next : ℕ) → (kind : ℕ) → kind ≡ 4 → checked_of (read_record b at Du.Inside maps) ≡ Ok (kind, next) → found_with found (records_from b maps (in_block at blocks)) ≡ found_with found (records_from b maps (in_block next blocks))
    instruction_passed next kind k e = inside_by _ refl kind next e true (eq-eqb kind 4 k)

    pub block_ended : (next : ℕ) → (kind : ℕ) → (kind ≡ 4 → ⊥) → checked_of (read_record b at Du.Inside maps) ≡ Ok (kind, next) → found_with found (records_from b maps (in_block at blocks)) ≡ found_with found (records_from b maps (at_block next blocks))
    block_ended next kind k e = inside_by _ refl kind next e false (ne_eqb kind 4 k)

    inside_refused_by : (x : Result (Record × ℕ) Fault) → read_record b at Du.Inside maps ≡ x → (f : Fault) → checked_of x ≡ Err f → next_record b maps (in_block at blocks) ≡ stop f
    unfolding checked_of next_record on_record
    inside_refused_by (Ok (r, n)) h f e = let z : ◌≡◌ {A = ℕ} 0 1 = cc in absurd (omega arith)
    inside_refused_by (Err g) h f e = let z : g ≡ f = cc in rw h (ap stop z)

    pub inside_refused : (f : Fault) → checked_of (read_record b at Du.Inside maps) ≡ Err f → found_with found (records_from b maps (in_block at blocks)) ≡ Err f
    inside_refused f e = by_refusal _ f (inside_refused_by _ refl f e)

    -- ---- between blocks: the first record of one that is due opens it

    block_after : (start : ℕ) (r : Record) (n : ℕ) → Came maps start n Du.Block r → after (at_block at (suc blocks)) (kind_of r) n ≡ in_block n blocks
    unfolding after kind_of
    block_after start (R.Head h) n k = absurd k
    block_after start (R.Map from len) n k = absurd k
    block_after start (R.Block id) n k = let z : suc blocks - 1 ≡ blocks = omega arith in ap (in_block n) z
    block_after start (R.Instruction i) n k = absurd k
    block_after start (R.Terminator t) n k = absurd k

    one_due : eqb (suc blocks) 0 ≡ false
    one_due = ne_eqb (suc blocks) 0 (λ e. omega arith)

    block_by_lem : (x : Result (Record × ℕ) Fault) → read_record b at Du.Block maps ≡ x → (kind next : ℕ) → checked_of x ≡ Ok (kind, next) → found_with found (records_from b maps (at_block at (suc blocks))) ≡ found_with found (records_from b maps (in_block next blocks))
    unfolding checked_of next_record on_record
    block_by_lem (Ok (r, n)) h kind next e =
        let z : n ≡ next = (ok_parts e).1 in
        let d = block_after (at + 4) r n (record_taken b at Du.Block maps r n h).came in
        rw (← z) (by_step (at_block at (suc blocks)) _ r (rw (one_due, h) (ap (go r) d)))
    block_by_lem (Err f) h kind next e = let z : ◌≡◌ {A = ℕ} 0 1 = cc in absurd (omega arith)

    pub block_opened : (kind next : ℕ) → checked_of (read_record b at Du.Block maps) ≡ Ok (kind, next) → found_with found (records_from b maps (at_block at (suc blocks))) ≡ found_with found (records_from b maps (in_block next blocks))
    block_opened = block_by_lem _ refl

    block_refused_by : (x : Result (Record × ℕ) Fault) → read_record b at Du.Block maps ≡ x → (f : Fault) → checked_of x ≡ Err f → next_record b maps (at_block at (suc blocks)) ≡ stop f
    unfolding checked_of next_record on_record
    block_refused_by (Ok (r, n)) h f e = let z : ◌≡◌ {A = ℕ} 0 1 = cc in absurd (omega arith)
    block_refused_by (Err g) h f e = let z : g ≡ f = cc in rw (one_due, h) (ap stop z)

    pub block_refused : (f : Fault) → checked_of (read_record b at Du.Block maps) ≡ Err f → found_with found (records_from b maps (at_block at (suc blocks))) ≡ Err f
    block_refused f e = by_refusal _ f (block_refused_by _ refl f e)

  -- ---- a whole block that is due, known for whatever number of blocks after it

  module _ (at : ℕ) (r : Result ℕ Fault) (h : (blocks : ℕ) → found_with found (records_from b maps (at_block at (suc blocks))) ≡ on_end found b maps blocks r) (all n : ℕ) (due : n < all) where
    one_of_them : found_with found (records_from b maps (at_block at (all - n))) ≡ on_end found b maps (all - (n + 1)) r
    one_of_them = let z : all - n ≡ suc (all - (n + 1)) = omega arith in rw z (h (all - (n + 1)))

    pub block_passed : (next : ℕ) → r ≡ Ok next → found_with found (records_from b maps (at_block at (all - n))) ≡ found_with found (records_from b maps (at_block next (all - (n + 1))))
    unfolding on_end
    block_passed next e = one_of_them ∙ rw e refl

    pub block_faulty : (f : Fault) → r ≡ Err f → found_with found (records_from b maps (at_block at (all - n))) ≡ Err f
    unfolding on_end
    block_faulty f e = one_of_them ∙ rw e refl

  -- ---- after the last block

  pub all_found : (at : ℕ) → at ≡ length b → found_with found (records_from b maps (at_block at 0)) ≡ Ok found
  unfolding next_record found_with
  all_found at e = rw (on_end_lem b maps (at_block at 0) (rw (eq-eqb at (length b) e) refl)) refl

  pub more_left : (at : ℕ) → (at ≡ length b → ⊥) → found_with found (records_from b maps (at_block at 0)) ≡ Err (NotDue at)
  unfolding next_record
  more_left at e = by_refusal _ (NotDue at) (rw (ne_eqb at (length b) e) refl)
