-- Records to blocks and back: the blocks' records written out one after the other are the records that were read.
use mathlib.Core.Path.{◌≡◌, refl, ap, ◌∙◌}
use mathlib.Core.Bool.{Bool, true, false}
use mathlib.Core.List.{List, [], ◌∷◌, ◌++◌, append-nil, map}
use Prim.Native.Nat.{ℕ, ◌+◌}
use native.Mathlib.Omega.{arith}
use lib.ListN.{length}
use lib.Seq.{append_snoc}
use Rattle.ir.specs.declared.Terminator.{Terminator}
use Rattle.record.specs.declared.Record.{Record}
use Rattle.record.specs.declared.Record.TheVariants as R
use Rattle.unitfile.specs.Records.{Cursor, Placed, records, records_from}
use Rattle.unitfile.specs.Unit.{PlacedInstruction, BasicBlock, Begun, none, begun, on_value, group}
use Rattle.unitfile.proofs.Run.{Goes, Ended, goes, ended, came, came_end}

-- ---- a block's records

abbrev pub block_record : ℕ → ℕ → Placed
block_record place id = record { place = place; value = R.Block id }

abbrev pub instruction_record : PlacedInstruction → Placed
instruction_record i = record { place = i.place; value = R.Instruction i.instruction }

abbrev pub terminator_record : ℕ → Terminator → Placed
terminator_record place t = record { place = place; value = R.Terminator t }

-- a block's records, and then more
unfoldable pub onto : BasicBlock → List Placed → List Placed
onto k l = block_record k.place k.id ∷ (map instruction_record k.instructions ++ (terminator_record k.ending k.terminator ∷ l))

unfoldable pub flat : List BasicBlock → List Placed
flat [] = []
flat (k ∷ ks) = onto k (flat ks)

-- the records of a block that has begun
unfoldable pub so_far : Begun → List Placed
so_far none = []
so_far (begun place id is) = block_record place id ∷ map instruction_record is

-- whether one has begun
unfoldable pub is_begun : Begun → Bool
is_begun none = false
is_begun (begun place id is) = true

-- and how many have
unfoldable pub how_many : Begun → ℕ
how_many none = 0
how_many (begun place id is) = 1

one_more_lem : (is : List PlacedInstruction) (i : PlacedInstruction) (l : List Placed) → map instruction_record (is ++ (i ∷ [])) ++ l ≡ map instruction_record is ++ (instruction_record i ∷ l)
one_more_lem [] i l = refl
one_more_lem (j ∷ is) i l = ap (λ (m : List Placed). instruction_record j ∷ m) (one_more_lem is i l)

-- ---- reading on with a block that has begun, or none

module _ (b : List ℕ) (maps : ℕ) where
  abbrev pub Written : List Placed → Type 0
  Written l = (o : Begun) (c : Cursor) → c.inside ≡ is_begun o → records_from b maps c ≡ records l → (flat (group o l) ≡ so_far o ++ l) × (length (group o l) ≡ how_many o + c.blocks)

  step : (l : List Placed) → Written l → (o : Begun) (c d : Cursor) (at : ℕ) (r : Record) → c.inside ≡ is_begun o → Goes c d r → records_from b maps d ≡ records l → (flat (on_value o at r (λ n. group n l)) ≡ so_far o ++ (record { place = at; value = r } ∷ l)) × (length (on_value o at r (λ n. group n l)) ≡ how_many o + c.blocks)
  unfolding on_value so_far is_begun how_many flat onto
  step l ih o c d at (R.Head h) i g e = absurd g
  step l ih o c d at (R.Map start len) i g e = absurd g
  step l ih none c d at (R.Block id) i g e =
      let z = ih (begun at id []) d g.inside e in
      let u = g.due in
      let v = g.blocks in
      (z.0, omega arith)
  step l ih (begun p id is) c d at (R.Block id') i g e =
      let u = g.outside in
      let z : ◌≡◌ {A = ℕ} 0 1 = cc in absurd (omega arith)
  step l ih none c d at (R.Instruction i) s g e =
      let u = g.was in
      let z : ◌≡◌ {A = ℕ} 0 1 = cc in absurd (omega arith)
  step l ih (begun p id is) c d at (R.Instruction i) s g e =
      let z = ih (begun p id (is ++ (record { place = at; instruction = i } ∷ []))) d g.inside e in
      let n = z.1 in
      let u = g.blocks in
      (z.0 ∙ ap (λ (m : List Placed). block_record p id ∷ m) (one_more_lem is _ l), omega arith)
  step l ih none c d at (R.Terminator t) s g e =
      let u = g.was in
      let z : ◌≡◌ {A = ℕ} 0 1 = cc in absurd (omega arith)
  step l ih (begun p id is) c d at (R.Terminator t) s g e =
      let z = ih none d g.outside e in
      let n = z.1 in
      let u = g.blocks in
      (rw z.0 refl, omega arith)

  last : (o : Begun) (c : Cursor) → c.inside ≡ is_begun o → Ended b c → (flat [] ≡ so_far o ++ []) × (0 ≡ how_many o + c.blocks)
  unfolding so_far is_begun how_many flat
  last none c i g = let u = g.blocks in (refl, omega arith)
  last (begun p id is) c i g =
      let u = g.outside in
      let z : ◌≡◌ {A = ℕ} 0 1 = cc in absurd (omega arith)

  pub written : (l : List Placed) → Written l
  unfolding group
  written [] o c i e = last o c i (ended b maps c (came_end b maps c e))
  written (p ∷ l) o c i e =
      let h = came b maps c p l e in
      step l (written l) o c h.next p.place p.value i (goes b maps c p.value h.next h.step) h.rest

  -- the records of the blocks from a cursor on are those that were read, and there are as many blocks as were due
  pub flat_group : (l : List Placed) (c : Cursor) → c.inside ≡ false → records_from b maps c ≡ records l → flat (group none l) ≡ l
  unfolding so_far is_begun
  flat_group l c i e = (written l none c i e).0

  pub group_count : (l : List Placed) (c : Cursor) → c.inside ≡ false → records_from b maps c ≡ records l → length (group none l) ≡ c.blocks
  unfolding so_far is_begun how_many
  group_count l c i e =
      let n = (written l none c i e).1 in
      omega arith

-- blocks to records and back
grouped : (p id : ℕ) (done is : List PlacedInstruction) (ending : ℕ) (t : Terminator) (l : List Placed) → group (begun p id done) (map instruction_record is ++ (terminator_record ending t ∷ l)) ≡ record { place = p; id = id; instructions = done ++ is; ending = ending; terminator = t } ∷ group none l
unfolding group on_value
grouped p id done [] ending t l = rw append-nil
grouped p id done (i ∷ is) ending t l = grouped p id (done ++ (i ∷ [])) is ending t l ∙ rw append_snoc

pub group_flat : (ks : List BasicBlock) → group none (flat ks) ≡ ks
unfolding group on_value flat onto
group_flat [] = refl
group_flat (k ∷ ks) = grouped k.place k.id [] k.instructions k.ending k.terminator (flat ks) ∙ ap (λ (m : List BasicBlock). k ∷ m) (group_flat ks)
