-- What is left to write at a place: with the instructions or the blocks that are still to come it ends as the definitions say.
use mathlib.Core.Path.{◌≡◌, refl, sym, ap, ◌∙◌, subst}
use mathlib.Core.Bool.{Bool, true, false}
use mathlib.Core.List.{List, [], ◌∷◌, ◌++◌}
use Prim.Native.Nat.{ℕ, zero, suc, ◌+◌, ◌*◌, ◌<◌, ◌≤◌}
use native.Mathlib.Nat.{add-zero, zero-add}
use native.Mathlib.Numerals.{add-one}
use native.Mathlib.Omega.{arith}
use lib.ListN.{length, get_or, take}
use lib.Seq.{sets, length-sets, get_or-take}
use Rattle.wire.specs.Pick.{pick}
use Rattle.ir.specs.declared.Terminator.{Terminator}
use Rattle.insn.specs.declared.Insn.{Insn}
use Rattle.record.specs.Frame.{next_at}
use Rattle.unitfile.specs.Unit.{BasicBlock, parse, read_unit}
use Rattle.unitfile.specs.declared.Found.{Found}
use Rattle.recordparts.specs.Terminator.{terminator_in}
use Rattle.survey.specs.Surveyed as survey
use Rattle.survey.specs.Surveyed.{blocks_of}
use Rattle.survey.proofs.Bounds.{blocks_count}
use Rattle.survey.proofs.Flat.{endings_count}
use Rattle.survey.specs.Standing.{BlockAt, Standing}
use Rattle.survey.proofs.Standing.{standing, standing_head, standing_tail}
use Rattle.lower.specs.Op.{Op, plain, Lowered, slots_of, insn}
use Rattle.lower.specs.Operand.{move}
use Rattle.lower.specs.Held.{ending_ops}
use Rattle.lower.specs.Terminator.{terminator}
use Rattle.lower.specs.declared.Ending.{Ending}
use Rattle.layout.specs.Layout.{Context, Laid, at, blocks, unit_ops, ops, slots, instructions, block}
use Rattle.layout.specs.Jumps.{Start, starts, jumps_from, jumps, lands, landing}
use Rattle.layout.specs.Code.{insns, code_bytes, relocations}
use Rattle.layout.specs.Inner.{keep_by, block_by, scratch_by, maps_of}
use Rattle.layout.proofs.Laid.{Fine, fine_laid, Both, both_fine, slots_append}
use Rattle.layout.proofs.Written.{insns_append, insns_count, relocations_append, relocations_count}
use Rattle.passes.specs.Notes.{first_target, pairs_of, EndsAt}
use Rattle.passes.specs.Places.{payload_at, instruction_by, places, ring_by, ops_at, ring_at, end_slot, end_ops, block_ops, block_ring}
use Rattle.passes.specs.Tables.{Tables, Room, unit_landing}
use Rattle.passes.specs.Put.{slot_to, first_insn, insns_to, reaches, RoomAt, Puts, Written}
use Rattle.passes.proofs.Kept.{jumps_of, fine_both, ops_both, jumps_both}
use Rattle.passes.proofs.Lists.{sets_append}
use Rattle.passes.proofs.Places.{places_first, places_none, end_ops_lem, instructions_ops, block_ops_lem, block_ring_lem}
use Rattle.passes.proofs.Plain.{maps_append}
use Rattle.passes.proofs.Put.{joined}
use Rattle.passes.proofs.Targets.{landing_append, Leads, written_terminator, leads}
use Rattle.lower.specs.declared.Reason.{Reason}
use Rattle.std.specs.Prelude.{Ok, Result}

-- ---- operations after operations

room_here : (s : ℕ) (x y : List Op) (t : ℕ) {n m : ℕ} → RoomAt (x ++ y) s t n m → RoomAt x s t n m
room_here s x y t r =
    let a = slots_append x y in
    let b = maps_append x y in
    record { few = omega (arith, r.few); code = omega (arith, r.code); relocs = omega (arith, r.relocs) }

puts_lengths : {f : ℕ → List Op → List Insn} {l : List Op} {s t s' t' : ℕ} {cs rs cs' rs' : List ℕ} → Puts f l s t cs rs s' t' cs' rs' → (length cs' ≡ length cs) × (length rs' ≡ length rs)
puts_lengths p = (ap length p.code ∙ simp length-sets, ap length p.relocs ∙ simp length-sets)

puts_same : {f : ℕ → List Op → List Insn} {l m : List Op} {s t s' t' : ℕ} {cs rs cs' rs' : List ℕ} → l ≡ m → Puts f m s t cs rs s' t' cs' rs' → Puts f l s t cs rs s' t' cs' rs'
puts_same {f} {s = s} {t} {s'} {t'} {cs} {rs} {cs'} {rs'} e p = subst (λ (l : List Op). Puts f l s t cs rs s' t' cs' rs') (sym e) p

module _ {f : ℕ → List Op → List Insn} {s t s' t' : ℕ} {cs rs cs' rs' : List ℕ} (x y : List Op) (p : Puts f x s t cs rs s' t' cs' rs') where
  room_next : RoomAt (x ++ y) s t (length cs) (length rs) → RoomAt y s' t' (length cs') (length rs')
  room_next r =
      let a = slots_append x y in
      let b = maps_append x y in
      let n = puts_lengths p in
      record { few = omega (arith, r.few, p.slot); code = omega (arith, r.code, p.slot, n.0); relocs = omega (arith, r.relocs, p.reloc, n.1) }

module _ (xs : List Start) where
  pub puts_nothing : (s t : ℕ) (cs rs : List ℕ) → Puts (insns xs) [] s t cs rs s t cs rs
  unfolding insns slots_of maps_of relocations code_bytes
  puts_nothing s t cs rs = record { slot = omega arith; reloc = omega arith; code = refl; relocs = refl }

  module _ {s t s' t' s'' t'' : ℕ} {cs rs cs' rs' cs'' rs'' : List ℕ} (x y : List Op) where
    puts_append : Puts (insns xs) x s t cs rs s' t' cs' rs' → Puts (insns xs) y s' t' cs' rs' s'' t'' cs'' rs'' → Puts (insns xs) (x ++ y) s t cs rs s'' t'' cs'' rs''
    puts_append p q =
        let n : t + length (relocations s x) ≡ t' = ap (λ (k : ℕ). t + k) (relocations_count s x) ∙ sym p.reloc in
        record {
          slot = omega (arith, p.slot, q.slot, slots_append x y);
          reloc = omega (arith, p.reloc, q.reloc, maps_append x y);
          code =
              joined cs s s' (insns xs s x) (insns xs s' y) (p.slot ∙ ap (λ (k : ℕ). s + k) (sym (insns_count xs s x))) p.code q.code
              ∙ ap (λ (l : List Insn). sets cs (8 * s) (code_bytes l)) (ap (λ (k : ℕ). insns xs s x ++ insns xs k y) p.slot ∙ sym (insns_append xs s x y));
          relocs =
              q.relocs
              ∙ ap (λ (l : List ℕ). sets l t' (relocations s' y)) p.relocs
              ∙ ap (λ (k : ℕ). sets (sets rs t (relocations s x)) k (relocations s' y)) (sym n)
              ∙ ap (λ (k : ℕ). sets (sets rs t (relocations s x)) (t + length (relocations s x)) (relocations k y)) p.slot
              ∙ sym (sets_append rs t (relocations s x) (relocations (s + slots_of x) y))
              ∙ ap (sets rs t) (sym (relocations_append s x y));
        }

-- ---- the instructions to the byte end: at the byte first, from scratch j on, at slot s and number t, with the lists cs and rs

pub record Putting (c : Context) (b : List ℕ) (end : ℕ) (all : List Op) (ring s₀ t₀ : ℕ) (cs₀ rs₀ : List ℕ) (first j s t : ℕ) (cs rs : List ℕ) : Type 0 where
  pub room : RoomAt (ops_at c b j (places b first end)) s t (length cs) (length rs)
  pub whole : (xs : List Start) {s' t' : ℕ} {cs' rs' : List ℕ} → Puts (insns xs) (ops_at c b j (places b first end)) s t cs rs s' t' cs' rs' → Puts (insns xs) all s₀ t₀ cs₀ rs₀ s' t' cs' rs'
  pub ring_is : ring_at c b j (places b first end) ≡ ring

pub putting : {c : Context} {b : List ℕ} {first end j s t : ℕ} {cs rs : List ℕ} → RoomAt (ops_at c b j (places b first end)) s t (length cs) (length rs) → Putting c b end (ops_at c b j (places b first end)) (ring_at c b j (places b first end)) s t cs rs first j s t cs rs
putting r = record { room = r; whole = λ xs p. p; ring_is = refl }

module _ {c : Context} {b : List ℕ} {end : ℕ} {all : List Op} {ring s₀ t₀ : ℕ} {cs₀ rs₀ : List ℕ} {first j s t : ℕ} {cs rs : List ℕ} (w : Putting c b end all ring s₀ t₀ cs₀ rs₀ first j s t cs rs) where
  abbrev here : List Op
  here = ops (at 0 (instruction_by c j (payload_at b first)))

  abbrev after : List Op
  after = ops_at c b (ring_by c j (payload_at b first)) (places b (next_at b first) end)

  module _ (l : first < end) where
    ops_first : ops_at c b j (places b first end) ≡ here ++ after
    unfolding ops_at
    ops_first = ap (ops_at c b j) (places_first b end first l)

    room_first : RoomAt (here ++ after) s t (length cs) (length rs)
    room_first = subst (λ (x : List Op). RoomAt x s t (length cs) (length rs)) ops_first w.room

    pub room_instruction : RoomAt here s t (length cs) (length rs)
    room_instruction = room_here s here after t room_first

    pub on_instruction : {s' t' j' first' : ℕ} {cs' rs' : List ℕ} → ((xs : List Start) → Puts (insns xs) here s t cs rs s' t' cs' rs') → j' ≡ ring_by c j (payload_at b first) → first' ≡ next_at b first → Putting c b end all ring s₀ t₀ cs₀ rs₀ first' j' s' t' cs' rs'
    unfolding ring_at
    on_instruction p e f =
        rw (e, f)
        (record {
          room = room_next here after (p []) room_first;
          whole = λ xs q. w.whole xs (puts_same ops_first (puts_append xs here after (p xs) q));
          ring_is = ap (ring_at c b j) (sym (places_first b end first l)) ∙ w.ring_is;
        })

  module _ (l : end ≤ first) where
    pub instructions_done : (xs : List Start) → Puts (insns xs) all s₀ t₀ cs₀ rs₀ s t cs rs
    unfolding ops_at
    instructions_done xs = w.whole xs (subst (λ (ps : List ℕ). Puts (insns xs) (ops_at c b j ps) s t cs rs s t cs rs) (sym (places_none b end first l)) (puts_nothing xs s t cs rs))

    pub ring_done : j ≡ ring
    unfolding ring_at
    ring_done = ap (ring_at c b j) (sym (places_none b end first l)) ∙ w.ring_is

-- ---- a block

written_none : (xs : List Start) (x y s : ℕ) → Written xs x y s []
unfolding insns_to insns reaches
written_none xs x y s = record { code = refl; reach = refl }

module _ (c : Context) (b : List ℕ) (j first end : ℕ) where
  abbrev body : List Op
  body = ops_at c b j (places b first end)

  -- one that is not emitted
  module _ {flag : Bool} (off : flag ≡ false) where
    pub puts_silent : (xs : List Start) (s t : ℕ) (cs rs : List ℕ) → Puts (insns xs) (block_ops c b flag j first end) s t cs rs s t cs rs
    unfolding block_ops end_ops
    puts_silent xs s t cs rs = rw off (puts_nothing xs s t cs rs)

    pub ring_silent : j ≡ block_ring c b flag j first end
    unfolding block_ring
    ring_silent = rw off

  -- one that is: its instructions, then the terminator that was read
  module _ {flag : Bool} (on : flag ≡ true) where
    ops_parts : block_ops c b flag j first end ≡ body ++ end_ops c b flag end
    unfolding block_ops
    ops_parts = rw on

    pub room_body : {s t n m : ℕ} → RoomAt (block_ops c b flag j first end) s t n m → RoomAt body s t n m
    room_body {s} {t} {n} {m} r = room_here s body (end_ops c b flag end) t (subst (λ (l : List Op). RoomAt l s t n m) ops_parts r)

    pub ring_body : {k : ℕ} → k ≡ ring_at c b j (places b first end) → k ≡ block_ring c b flag j first end
    unfolding block_ring
    ring_body e = rw on e

    module _ {s t s' t' : ℕ} {cs rs cs' rs' : List ℕ} (p : (xs : List Start) → Puts (insns xs) body s t cs rs s' t' cs' rs') {u : Terminator} (x : Result Ending Reason) (read : u ≡ terminator_in b (end + 4)) (lowers : ending_ops x ≡ terminator c.frame u) where
      abbrev closes : List Op
      closes = ops (at 0 (ending_ops x))

      end_is : end_ops c b flag end ≡ closes
      unfolding end_ops
      end_is = rw on (ap (λ (y : Lowered). ops (at 0 y)) (ap (terminator c.frame) (sym read) ∙ sym lowers))

      end_slot_lem : end_slot c b j first end s ≡ s'
      unfolding end_slot
      end_slot_lem = sym (p []).slot

      pub room_end : RoomAt (block_ops c b flag j first end) s t (length cs) (length rs) → RoomAt closes s' t' (length cs') (length rs')
      room_end r = room_next body closes (p []) (subst (λ (l : List Op). RoomAt l s t (length cs) (length rs)) (ops_parts ∙ ap (λ (l : List Op). body ++ l) end_is) r)

      module _ {one other one' other' : ℕ} (first_is : one ≡ one') (second_is : other ≡ other') where
        pub reach_end : reaches one' other' (end_slot c b j first end s) (end_ops c b flag end) ≡ true → reaches one other s' closes ≡ true
        reach_end h = rw (first_is, second_is, ← end_is, ← end_slot_lem) h

        pub puts_block : (xs : List Start) {s'' t'' : ℕ} {cs'' rs'' : List ℕ} → Written xs one' other' (end_slot c b j first end s) (end_ops c b flag end) → Puts (insns_to one other) closes s' t' cs' rs' s'' t'' cs'' rs'' → Puts (insns xs) (block_ops c b flag j first end) s t cs rs s'' t'' cs'' rs''
        puts_block xs w q =
            let code : insns_to one other s' closes ≡ insns xs s' closes = rw (first_is, second_is, ← end_is, ← end_slot_lem) w.code in
            puts_same (ops_parts ∙ ap (λ (l : List Op). body ++ l) end_is) (puts_append xs body closes (p xs) (record { slot = q.slot; reloc = q.reloc; code = q.code ∙ ap (λ (l : List Insn). sets cs' (8 * s') (code_bytes l)) code; relocs = q.relocs }))

-- ---- the blocks from number k on, whose first record is at a place; from scratch j on, at slot s and number t, with the lists cs and rs

pub record Writing (b es : List ℕ) (c : Context) (e : ℕ → Bool) (xs : List Start) (edges numbers : List ℕ) (all : List Op) (cs₀ rs₀ : List ℕ) (k place j s t : ℕ) (cs rs : List ℕ) (ds : List BasicBlock) : Type 0 where
  pub stands : Standing b place ds
  pub ends : (i : ℕ) → i < length ds → get_or es (k + i) 0 ≡ get_or (survey.endings ds) i 0
  pub leads : (i : ℕ) → i < 2 * length ds → Leads xs (get_or (pairs_of ds) i 0) (slot_to edges numbers (2 * k + i))
  pub fine : Fine (blocks c j (keep_by e k ds))
  pub land : landing xs (jumps_from c j s (keep_by e k ds)) ≡ lands
  pub room : RoomAt (ops (blocks c j (keep_by e k ds))) s t (length cs) (length rs)
  pub whole : {s' t' : ℕ} {cs' rs' : List ℕ} → Puts (insns xs) (ops (blocks c j (keep_by e k ds))) s t cs rs s' t' cs' rs' → Puts (insns xs) all 1 0 cs₀ rs₀ s' t' cs' rs'

module _ {b es : List ℕ} {c : Context} {e : ℕ → Bool} {xs : List Start} {edges numbers : List ℕ} {all : List Op} {cs₀ rs₀ : List ℕ} {k place j s t : ℕ} {cs rs : List ℕ} {d : BasicBlock} {ds : List BasicBlock} (w : Writing b es c e xs edges numbers all cs₀ rs₀ k place j s t cs rs (d ∷ ds)) where
  stands_here : BlockAt b place d
  stands_here = standing_head w.stands

  pub ending : get_or es k 0 ≡ d.ending
  unfolding survey.endings
  ending = ap (λ (i : ℕ). get_or es i 0) (sym (add-zero k)) ∙ w.ends 0 (omega arith)

  pub inside : get_or es k 0 + 4 ≤ length b
  unfolding next_at
  inside = omega (arith, stands_here.after, ending)

  pub before : place + 8 ≤ get_or es k 0
  before = omega (arith, stands_here.within, ending)

  abbrev block_here : List Op
  block_here = block_ops c b (e k) j (place + 8) (get_or es k 0)

  abbrev blocks_after : Laid
  blocks_after = blocks c (scratch_by (e k) j d) (keep_by e (suc k) ds)

  parts : Both (block_by c (e k) j d) blocks_after
  parts = fine_both c e k j d ds w.fine

  block_is : ops (block_by c (e k) j d) ≡ block_here
  block_is = block_ops_lem c b j place d stands_here (e k) parts.first ∙ ap (block_ops c b (e k) j (place + 8)) (sym ending)

  ops_are : ops (blocks c j (keep_by e k (d ∷ ds))) ≡ block_here ++ ops blocks_after
  ops_are = ops_both c e k j d ds w.fine ∙ ap (λ (l : List Op). l ++ ops blocks_after) block_is

  room_both : RoomAt (block_here ++ ops blocks_after) s t (length cs) (length rs)
  room_both = subst (λ (l : List Op). RoomAt l s t (length cs) (length rs)) ops_are w.room

  pub room_block : RoomAt block_here s t (length cs) (length rs)
  room_block = room_here s block_here (ops blocks_after) t room_both

  land_both : (landing xs (pick (e k) (jumps_of c j s d) []) ≡ lands) × (landing xs (jumps_from c (scratch_by (e k) j d) (s + slots (block_by c (e k) j d)) (keep_by e (suc k) ds)) ≡ lands)
  land_both = landing_append xs (pick (e k) (jumps_of c j s d) []) _ (ap (landing xs) (sym (jumps_both c e k j d ds s)) ∙ w.land)

  written_by : (u : Bool) → Fine (block_by c u j d) → landing xs (pick u (jumps_of c j s d) []) ≡ lands → Written xs (slot_to edges numbers (2 * k)) (slot_to edges numbers (2 * k + 1)) (end_slot c b j (place + 8) d.ending s) (end_ops c b u d.ending)
  unfolding block_by block end_slot slots pairs_of
  written_by true f h =
      let n = instructions_ops c b j place d stands_here (both_fine _ _ f).first in
      rw (end_ops_lem c b j place d stands_here true, ← n)
      (written_terminator xs _ _ d.ending _ c.frame d.terminator (subst (λ (i : ℕ). Leads xs (first_target d.terminator) (slot_to edges numbers i)) (add-zero (2 * k)) (w.leads 0 (omega arith))) (w.leads 1 (omega arith)) h)
  written_by false f h = rw (end_ops_lem c b j place d stands_here false) (written_none xs _ _ _)

  pub written : Written xs (slot_to edges numbers (2 * k)) (slot_to edges numbers (2 * k + 1)) (end_slot c b j (place + 8) (get_or es k 0) s) (end_ops c b (e k) (get_or es k 0))
  written = rw ending (written_by (e k) parts.first land_both.0)

  pub on_block : {s' t' j' place' : ℕ} {cs' rs' : List ℕ} → Puts (insns xs) block_here s t cs rs s' t' cs' rs' → j' ≡ block_ring c b (e k) j (place + 8) (get_or es k 0) → place' ≡ next_at b (get_or es k 0) → Writing b es c e xs edges numbers all cs₀ rs₀ (suc k) place' j' s' t' cs' rs' ds
  unfolding survey.endings pairs_of slots
  on_block {s'} {t'} {cs' = cs'} {rs'} p f g =
      let ring = f ∙ ap (block_ring c b (e k) j (place + 8)) ending ∙ sym (block_ring_lem c b j place d stands_here (e k) parts.first) in
      let slot : s + slots_of (ops (block_by c (e k) j d)) ≡ s' = ap (λ (l : List Op). s + slots_of l) block_is ∙ sym p.slot in
      rw (ring, g, ending)
      (record {
        stands = standing_tail w.stands;
        ends = λ i l. let z : suc k + i ≡ k + suc i = omega arith in ap (λ (n : ℕ). get_or es n 0) z ∙ w.ends (suc i) (omega arith);
        leads = λ i l. let z : 2 * k + suc (suc i) ≡ 2 * suc k + i = omega arith in subst (λ (n : ℕ). Leads xs (get_or (pairs_of ds) i 0) (slot_to edges numbers n)) z (w.leads (suc (suc i)) (omega arith));
        fine = parts.second;
        land = ap (λ (n : ℕ). landing xs (jumps_from c (scratch_by (e k) j d) n (keep_by e (suc k) ds))) (sym slot) ∙ land_both.1;
        room = room_next block_here (ops blocks_after) p room_both;
        whole = λ q. w.whole (puts_same ops_are (puts_append xs block_here (ops blocks_after) p q));
      })

-- ---- the blocks that are left of n

pub record Left (b es : List ℕ) (c : Context) (e : ℕ → Bool) (xs : List Start) (edges numbers : List ℕ) (all : List Op) (cs₀ rs₀ : List ℕ) (n k place j s t : ℕ) (cs rs : List ℕ) : Type 0 where
  pub left : List BasicBlock
  pub count : k + length left ≡ n
  pub writing : Writing b es c e xs edges numbers all cs₀ rs₀ k place j s t cs rs left

-- the first of them, and the others
pub record Next (b es : List ℕ) (c : Context) (e : ℕ → Bool) (xs : List Start) (edges numbers : List ℕ) (all : List Op) (cs₀ rs₀ : List ℕ) (n k place j s t : ℕ) (cs rs : List ℕ) : Type 0 where
  pub block : BasicBlock
  pub others : List BasicBlock
  pub count : k + 1 + length others ≡ n
  pub writing : Writing b es c e xs edges numbers all cs₀ rs₀ k place j s t cs rs (block ∷ others)

module _ {b es : List ℕ} {c : Context} {e : ℕ → Bool} {xs : List Start} {edges numbers : List ℕ} {all : List Op} {cs₀ rs₀ : List ℕ} {k place j s t : ℕ} {cs rs : List ℕ} where
  done_by : (ds : List BasicBlock) → length ds ≡ 0 → Writing b es c e xs edges numbers all cs₀ rs₀ k place j s t cs rs ds → Puts (insns xs) all 1 0 cs₀ rs₀ s t cs rs
  unfolding keep_by blocks ops
  done_by [] q w = w.whole (puts_nothing xs s t cs rs)
  done_by (d ∷ ds) q w = absurd (omega arith)

module _ {b es : List ℕ} {c : Context} {e : ℕ → Bool} {xs : List Start} {edges numbers : List ℕ} {all : List Op} {cs₀ rs₀ : List ℕ} {n k place j s t : ℕ} {cs rs : List ℕ} where
  next_by : (ds : List BasicBlock) → k + length ds ≡ n → Writing b es c e xs edges numbers all cs₀ rs₀ k place j s t cs rs ds → k < n → Next b es c e xs edges numbers all cs₀ rs₀ n k place j s t cs rs
  next_by [] q w l = absurd (omega arith)
  next_by (d ∷ ds) q w l = record { block = d; others = ds; count = omega arith; writing = w }

  pub next : Left b es c e xs edges numbers all cs₀ rs₀ n k place j s t cs rs → k < n → Next b es c e xs edges numbers all cs₀ rs₀ n k place j s t cs rs
  next x l = next_by x.left x.count x.writing l

  pub passed : (x : Next b es c e xs edges numbers all cs₀ rs₀ n k place j s t cs rs) {s' t' j' place' : ℕ} {cs' rs' : List ℕ} → Puts (insns xs) (block_ops c b (e k) j (place + 8) (get_or es k 0)) s t cs rs s' t' cs' rs' → j' ≡ block_ring c b (e k) j (place + 8) (get_or es k 0) → place' ≡ next_at b (get_or es k 0) → Left b es c e xs edges numbers all cs₀ rs₀ n (k + 1) place' j' s' t' cs' rs'
  passed x p f g = record { left = x.others; count = x.count; writing = rw (add-one k) (on_block x.writing p f g) }

  pub done : Left b es c e xs edges numbers all cs₀ rs₀ n k place j s t cs rs → n ≤ k → Puts (insns xs) all 1 0 cs₀ rs₀ s t cs rs
  done x l = done_by x.left (omega (arith, x.count)) x.writing

-- ---- a unit that was read whole

take_most : (n : ℕ) (l : List ℕ) → length (take n l) ≤ length l
take_most zero l = omega arith
take_most (suc n) [] = omega arith
take_most (suc n) (x ∷ l) = let h = take_most n l in omega arith

-- the places of its terminators stand in their list
pub ends_room : (b : List ℕ) (found : Found) (es : List ℕ) → read_unit b ≡ Ok found → EndsAt b es → found.blocks ≤ length es
ends_room b found es read ends = omega (arith, take_most (length (blocks_of (parse b))) es, ap length ends, endings_count (blocks_of (parse b)), blocks_count b found read)

module _ (b : List ℕ) (found : Found) (c : Context) (e : ℕ → Bool) (read : read_unit b ≡ Ok found) where
  abbrev bs : List BasicBlock
  bs = blocks_of (parse b)

  abbrev xs : List Start
  xs = starts c (keep_by e 0 bs)

  module _ {edges numbers : List ℕ} (tables : Tables c e bs edges numbers) where
    -- slot 0, and the blocks
    fine_unit : Both (at 0 (move 6 1)) (blocks c 0 (keep_by e 0 bs))
    unfolding unit_ops
    fine_unit = both_fine _ _ (fine_laid tables.fine)

    abbrev entire : List Op
    entire = ops (unit_ops c (keep_by e 0 bs))

    abbrev emits : List Op
    emits = ops (blocks c 0 (keep_by e 0 bs))

    ops_unit : entire ≡ ops (at 0 (move 6 1)) ++ emits
    unfolding unit_ops
    ops_unit = fine_unit.ops

    -- slot 0 has room
    pub first_room : {n m : ℕ} → Room entire n m → 8 ≤ n
    unfolding move insn at ops slots_of
    first_room room = omega (arith, room.code, ap slots_of ops_unit)

    pub start : (es cs rs : List ℕ) → EndsAt b es → unit_landing c e bs ≡ lands → Room entire (length cs) (length rs) → Left b es c e xs edges numbers emits cs rs found.blocks 0 found.body 0 1 0 cs rs
    unfolding jumps move insn at ops slots_of maps_of
    start es cs rs ends land room =
        record {
          left = bs;
          count = zero-add _ ∙ blocks_count b found read;
          writing = record {
            stands = standing b found read;
            ends = λ i l. ap (λ (k : ℕ). get_or es k 0) (zero-add i) ∙ sym (get_or-take (length bs) es i 0 l) ∙ ap (λ (m : List ℕ). get_or m i 0) ends;
            leads = λ i l. let z : i ≡ 2 * 0 + i = omega arith in subst (λ (k : ℕ). Leads xs (get_or (pairs_of bs) i 0) (slot_to edges numbers k)) z (leads tables i l);
            fine = fine_unit.second;
            land = land;
            room = record {
              few = omega (arith, room.few, ap slots_of ops_unit);
              code = omega (arith, room.code, ap slots_of ops_unit);
              relocs = omega (arith, room.relocs, ap maps_of ops_unit);
            };
            whole = λ p. p;
          };
        }

    -- with slot 0 before them the blocks are the unit
    pub unit_done : (cs rs : List ℕ) {s t : ℕ} {cs' cs'' rs'' : List ℕ} → cs' ≡ sets cs 0 (code_bytes (first_insn ∷ [])) → Puts (insns xs) emits 1 0 cs' rs s t cs'' rs'' → (cs'' ≡ sets cs 0 (code_bytes (insns xs 0 entire))) × (rs'' ≡ sets rs 0 (relocations 0 entire))
    unfolding move insn at ops slots_of insns maps_of relocations
    unit_done cs rs f p =
        let first : Puts (insns xs) (plain first_insn ∷ []) 0 0 cs rs 1 0 _ rs = record { slot = refl; reloc = refl; code = f; relocs = refl } in
        let q = puts_same ops_unit (puts_append xs (plain first_insn ∷ []) emits first p) in
        (q.code, q.relocs)
