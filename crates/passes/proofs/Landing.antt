-- The jumps checked by block numbers: one block after the other, and that they land where the jumps of the emitted blocks do.
use mathlib.Core.Path.{◌≡◌, refl, sym, ap, ◌∙◌}
use mathlib.Core.Bool.{Bool, true, false}
use mathlib.Core.List.{List, [], ◌∷◌, ◌++◌}
use mathlib.Core.Logic.{⊎_elim}
use Prim.Native.Nat.{ℕ, suc, ◌+◌, ◌*◌, ◌-◌, ◌<◌, ◌≤◌}
use native.Mathlib.Nat.{zero-add}
use native.Mathlib.Omega.{arith}
use lib.ListN.{length, get_or}
use Rattle.wire.specs.Pick.{pick}
use Rattle.ir.specs.declared.Terminator.{Terminator}
use Rattle.ir.specs.declared.Terminator.TheVariants as T
use Rattle.unitfile.specs.Unit.{BasicBlock}
use Rattle.flow.specs.Computed.{is_reached}
use Rattle.flow.specs.Linked.{number_from}
use Rattle.flow.proofs.Numbers.{number_law}
use Rattle.survey.specs.Surveyed as survey
use Rattle.survey.specs.Surveyed.{ids}
use Rattle.survey.proofs.Flat.{ids_count}
use Rattle.layout.specs.Emitted.{nodes}
use Rattle.layout.specs.Layout.{Context, blocks, slots, unit_ops}
use Rattle.layout.specs.Jumps.{Start, starts, Jump, to, nowhere, last_start, jumps, jumps_from, Landing, lands, no_target, too_far, on_target, or_rest, landing}
use Rattle.layout.specs.Inner as layout
use Rattle.layout.specs.Inner.{keep_by, scratch_by, block_by}
use Rattle.layout.proofs.Laid.{Fine, both_fine}
use Rattle.layout.proofs.Keep.{Agree}
use Rattle.layout.proofs.Located.{located}
use Rattle.layout.proofs.Patches.{patched, jumps_first, or_lands, landing_append}
use Rattle.passes.specs.Notes.{count_of, first_target, second_target, counts_of, pairs_of}
use Rattle.passes.specs.Tables.{Tables, Endings, unit_landing}
use Rattle.jumps.specs.Landed.{marked, landed_of, or_next, landed_by, landed_at, landed_from}
use Rattle.jumps.specs.declared.Astray.{Astray, Astray}
use Rattle.passes.proofs.Kept.{fine_both}
use Rattle.std.specs.Prelude.{Result, ⊤}

-- ---- a block's jumps, by its terminator

landed_or : (x y : Landing) → landed_of (or_rest x y) ≡ or_next (landed_of x) (landed_of y)
unfolding landed_of or_rest or_next
landed_or lands y = refl
landed_or (no_target place id) y = refl
landed_or (too_far place id) y = refl

module _ (xs : List Start) (emitted edges endings counts named numbers : List ℕ) (k : ℕ) where
  -- the t-th of the ids that are named, and the slot of the block that its number means
  record Names (t id : ℕ) : Type 0 where
    name : get_or named t 0 ≡ id
    slot : last_start xs id ≡ pick (marked emitted (get_or numbers t 0)) (to (get_or edges (get_or numbers t 0) 0)) nowhere

  -- what the tables tell of block k
  record Told (place past : ℕ) (t : Terminator) : Type 0 where
    place_is : get_or endings k 0 ≡ place
    past_is : get_or edges (k + 1) 0 ≡ past
    count : get_or counts k 0 ≡ count_of t
    first : Names (2 * k) (first_target t)
    second : Names (2 * k + 1) (second_target t)

  landed_by_lem : {place past : ℕ} {q : Terminator} (t id back : ℕ) → Told place past q → Names t id → landed_by emitted edges endings named numbers k back t ≡ landed_of (on_target (record { place = place; own = past - back; id = id }) (last_start xs id))
  unfolding landed_by
  landed_by_lem t id back w n = rw (w.place_is, w.past_is, n.name, ← n.slot)

  landed_at_lem : (place past : ℕ) (t : Terminator) → Told place past t → landed_at emitted edges endings counts named numbers k ≡ landed_of (landing xs (patched place past t))
  unfolding landed_at patched landing landed_of count_of first_target second_target
  landed_at_lem place past (T.Return o) w = rw w.count
  landed_at_lem place past (T.Jump target) w = rw w.count (landed_by_lem _ _ 1 w w.first ∙ ap landed_of (sym (or_lands _)))
  landed_at_lem place past (T.Branch o one other) w =
      rw (w.count, landed_by_lem _ _ 1 w w.second, landed_by_lem _ _ 2 w w.first, or_lands) (sym (landed_or _ _))

-- ---- the blocks from block k on, whose first slot is s and whose scratch position is j

record Walk (c : Context) (e : ℕ → Bool) (all edges endings counts named numbers : List ℕ) (k j s : ℕ) (bs : List BasicBlock) : Type 0 where
  edge : (i : ℕ) → i ≤ length bs → get_or edges (k + i) 0 ≡ get_or (layout.edges c e k j s bs) i 0
  ending : (i : ℕ) → i < length bs → get_or endings (k + i) 0 ≡ get_or (survey.endings bs) i 0
  count : (i : ℕ) → i < length bs → get_or counts (k + i) 0 ≡ get_or (counts_of bs) i 0
  name : (i : ℕ) → i < 2 * length bs → get_or named (2 * k + i) 0 ≡ get_or (pairs_of bs) i 0
  number : (i : ℕ) → i < 2 * length bs → get_or numbers (2 * k + i) 0 ≡ number_from 0 all (get_or (pairs_of bs) i 0)

shift : (l : List ℕ) (m n : ℕ) {x : ℕ} → m ≡ n → get_or l n 0 ≡ x → get_or l m 0 ≡ x
shift l m n e q = ap (λ (i : ℕ). get_or l i 0) e ∙ q

first_edge : (c : Context) (e : ℕ → Bool) (k j s : ℕ) (bs : List BasicBlock) → get_or (layout.edges c e k j s bs) 0 0 ≡ s
unfolding layout.edges
first_edge c e k j s [] = refl
first_edge c e k j s (b ∷ bs) = refl

module _ {c : Context} {e : ℕ → Bool} {all edges endings counts named numbers : List ℕ} {k j s : ℕ} {b : BasicBlock} {bs : List BasicBlock} (w : Walk c e all edges endings counts named numbers k j s (b ∷ bs)) where
  past : get_or edges (k + 1) 0 ≡ s + slots (block_by c (e k) j b)
  unfolding layout.edges
  past = w.edge 1 (omega arith) ∙ first_edge c e (suc k) _ _ bs

  counted : get_or counts k 0 ≡ count_of b.terminator
  unfolding counts_of
  counted = shift counts k (k + 0) (omega arith) (w.count 0 (omega arith))

  walk_rest : Walk c e all edges endings counts named numbers (suc k) (scratch_by (e k) j b) (s + slots (block_by c (e k) j b)) bs
  unfolding layout.edges survey.endings counts_of pairs_of
  walk_rest =
      record {
        edge = λ i l. shift edges (suc k + i) (k + suc i) (omega arith) (w.edge (suc i) (omega arith));
        ending = λ i l. shift endings (suc k + i) (k + suc i) (omega arith) (w.ending (suc i) (omega arith));
        count = λ i l. shift counts (suc k + i) (k + suc i) (omega arith) (w.count (suc i) (omega arith));
        name = λ i l. shift named (2 * suc k + i) (2 * k + suc (suc i)) (omega arith) (w.name (suc (suc i)) (omega arith));
        number = λ i l. shift numbers (2 * suc k + i) (2 * k + suc (suc i)) (omega arith) (w.number (suc (suc i)) (omega arith));
      }

  -- the slot of an id's block, by its number
  module _ (xs : List Start) (emitted : List ℕ) (found : (id : ℕ) → last_start xs id ≡ pick (marked emitted (number_from 0 all id)) (to (get_or edges (number_from 0 all id) 0)) nowhere) where
    walk_told : Told xs emitted edges endings counts named numbers k b.ending (s + slots (block_by c (e k) j b)) b.terminator
    unfolding survey.endings counts_of pairs_of
    walk_told =
        record {
          place_is = shift endings k (k + 0) (omega arith) (w.ending 0 (omega arith));
          past_is = past;
          count = counted;
          first = record { name = shift named (2 * k) (2 * k + 0) (omega arith) (w.name 0 (omega arith)); slot = rw (shift numbers (2 * k) (2 * k + 0) (omega arith) (w.number 0 (omega arith))) (found (first_target b.terminator)) };
          second = record { name = w.name 1 (omega arith); slot = rw (w.number 1 (omega arith)) (found (second_target b.terminator)) };
        }

by_mark : (xs : List Start) (t : Bool) (a r : Result ⊤ Astray) (ps js : List Jump) → a ≡ landed_of (landing xs ps) → r ≡ landed_of (landing xs js) → pick t (or_next a r) r ≡ landed_of (landing xs (pick t ps [] ++ js))
by_mark xs true a r ps js p q = rw (p, q, landing_append) (sym (landed_or (landing xs ps) (landing xs js)))
by_mark xs false a r ps js p q = q

module _ (c : Context) (emitted all edges endings counts named numbers : List ℕ) where
  module _ (xs : List Start) (found : (id : ℕ) → last_start xs id ≡ pick (marked emitted (number_from 0 all id)) (to (get_or edges (number_from 0 all id) 0)) nowhere) where
    landed_walk : (k j s : ℕ) (bs : List BasicBlock) → Walk c (marked emitted) all edges endings counts named numbers k j s bs → Fine (blocks c j (keep_by (marked emitted) k bs)) → landed_from emitted edges endings counts named numbers k (length bs) ≡ landed_of (landing xs (jumps_from c j s (keep_by (marked emitted) k bs)))
    unfolding landed_from keep_by jumps_from landing landed_of
    landed_walk k j s [] w f = refl
    landed_walk k j s (b ∷ bs) w f =
        let F = fine_both c (marked emitted) k j b bs f in
        by_mark xs (marked emitted k) _ _ _ _ (landed_at_lem xs emitted edges endings counts named numbers k _ _ b.terminator (walk_told w xs emitted found)) (landed_walk (suc k) _ _ bs (walk_rest w) F.second)
        ∙ ap (λ (js : List Jump). landed_of (landing xs js)) (sym (jumps_first c (marked emitted k) j s b (keep_by (marked emitted) (suc k) bs) F.first))

-- ---- of a whole unit

module _ {c : Context} (emitted : List ℕ) {edges endings counts named numbers : List ℕ} {bs : List BasicBlock} (t : Tables c (marked emitted) bs edges numbers) (n : Endings bs endings counts named) where
  fine : Fine (blocks c 0 (keep_by (marked emitted) 0 bs))
  unfolding unit_ops
  fine = (both_fine _ _ (record { is = t.fine })).second

  walk : Walk c (marked emitted) (ids bs) edges endings counts named numbers 0 0 1 bs
  walk =
      record {
        edge = λ i l. shift edges (0 + i) i (omega arith) (t.edge i l);
        ending = λ i l. shift endings (0 + i) i (omega arith) (n.ending i l);
        count = λ i l. shift counts (0 + i) i (omega arith) (n.count i l);
        name = λ i l. shift named (2 * 0 + i) i (omega arith) (n.names i l);
        number = λ i l. shift numbers (2 * 0 + i) i (omega arith) (t.number i l);
      }

  agree : Agree (marked emitted) (is_reached (nodes bs)) 0 bs
  agree = record { at = λ i l. ap (marked emitted) (zero-add i) ∙ t.agrees i l }

  found : (id : ℕ) → last_start (starts c (keep_by (marked emitted) 0 bs)) id ≡ pick (marked emitted (number_from 0 (ids bs) id)) (to (get_or edges (number_from 0 (ids bs) id) 0)) nowhere
  unfolding starts
  found id =
      let number = number_from 0 (ids bs) id in
      located c (marked emitted) (is_reached (nodes bs)) 0 1 bs agree t.few t.past id
      ∙ ⊎_elim
      (λ h. rw (t.edge number (omega (arith, h.inside, ids_count bs))))
      (λ h. let p = ap (marked emitted) h.0 ∙ t.past in rw p)
      (number_law (ids bs) id (omega (arith, ids_count bs, t.few)))

  -- the refusals 18 and 19 by block numbers are those of the unit
  pub landed_unit : landed_from emitted edges endings counts named numbers 0 (length bs) ≡ landed_of (unit_landing c (marked emitted) bs)
  unfolding jumps
  landed_unit = landed_walk c emitted (ids bs) edges endings counts named numbers (starts c (keep_by (marked emitted) 0 bs)) found 0 0 1 bs walk fine
