-- Where the last emitted block with an id begins: found by the number of the last block that has the id.
use mathlib.Core.Path.{◌≡◌, refl, sym, ap, ◌∙◌}
use mathlib.Core.Bool.{Bool, true, false}
use mathlib.Core.List.{List, [], ◌∷◌}
use mathlib.Core.Logic.{⊎_elim}
use Prim.Native.Nat.{ℕ, zero, suc, ◌+◌, ◌≤◌}
use native.Mathlib.Nat.{zero-add}
use native.Mathlib.Omega.{arith}
use borrow.Author.Tests.{eq-eqb, ne_eqb}
use lib.ListN.{length, get_or}
use Rattle.wire.specs.Pick.{pick}
use Rattle.unitfile.specs.Unit.{BasicBlock}
use Rattle.survey.specs.Surveyed.{ids}
use Rattle.survey.proofs.Flat.{ids_count}
use Rattle.flow.specs.Linked.{number_from}
use Rattle.flow.proofs.Numbers.{Here, Nowhere, number_law}
use Rattle.layout.specs.Layout.{Context, slots}
use Rattle.layout.specs.Jumps.{Start, starts_from, Target, to, nowhere, or_this, last_start}
use Rattle.layout.specs.Inner.{keep_by, scratch_by, block_by, edges}
use Rattle.layout.proofs.Laid.{no_slots}
use Rattle.layout.proofs.Keep.{Agree, agree_first, agree_rest}

-- every block, emitted or not
unfoldable zipped : List ℕ → List ℕ → List Start
zipped [] ss = []
zipped (i ∷ is) [] = []
zipped (i ∷ is) (s ∷ ss) = record { id = i; slot = s } ∷ zipped is ss

or_other : (l : Target) (x : Start) (id : ℕ) → (x.id ≡ id → ⊥) → or_this l x id ≡ l
unfolding or_this
or_other (to s) x id n = refl
or_other nowhere x id n = rw (ne_eqb x.id id n)

or_this_lem : (x : Start) (id : ℕ) → x.id ≡ id → or_this nowhere x id ≡ to x.slot
unfolding or_this
or_this_lem x id e = rw (eq-eqb x.id id e)

last_by : (t r : Bool) (xs : List Start) (l : Target) (x : Start) (id : ℕ) → last_start xs id ≡ pick r l nowhere → (x.id ≡ id → t ≡ r) → last_start (pick t (x ∷ xs) xs) id ≡ pick r (or_this l x id) nowhere
unfolding last_start
last_by true true xs l x id h n = ap (λ (y : Target). or_this y x id) h
last_by true false xs l x id h n =
    ap (λ (y : Target). or_this y x id) h
    ∙ or_other nowhere x id (λ q. let u = n q in let z : ◌≡◌ {A = ℕ} 0 1 = cc in omega arith)
last_by false true xs l x id h n = h ∙ sym (or_other l x id (λ q. let u = n q in let z : ◌≡◌ {A = ℕ} 0 1 = cc in omega arith))
last_by false false xs l x id h n = h

none_either : (r : Bool) → nowhere ≡ pick r nowhere nowhere
none_either true = refl
none_either false = refl

module _ (c : Context) (e reached : ℕ → Bool) (id : ℕ) where
  starts_by : (t : Bool) (j s : ℕ) (b : BasicBlock) (bs : List BasicBlock) → starts_from c j s (pick t (b ∷ bs) bs) ≡ pick t (record { id = b.id; slot = s } ∷ starts_from c (scratch_by t j b) (s + slots (block_by c t j b)) bs) (starts_from c (scratch_by t j b) (s + slots (block_by c t j b)) bs)
  unfolding starts_from scratch_by block_by
  starts_by true j s b bs = refl
  starts_by false j s b bs = ap (λ (n : ℕ). starts_from c j n bs) (sym (no_slots false s))

  all_starts : (k j s : ℕ) (bs : List BasicBlock) → Agree e reached k bs → last_start (starts_from c j s (keep_by e k bs)) id ≡ pick (reached id) (last_start (zipped (ids bs) (edges c e k j s bs)) id) nowhere
  unfolding keep_by starts_from last_start zipped edges ids
  all_starts k j s [] a = none_either (reached id)
  all_starts k j s (b ∷ bs) a =
      ap (λ (xs : List Start). last_start xs id) (starts_by (e k) j s b (keep_by e (suc k) bs))
      ∙ last_by (e k) (reached id) _ _ (record { id = b.id; slot = s }) id
      (all_starts (suc k) (scratch_by (e k) j b) (s + slots (block_by c (e k) j b)) bs (agree_rest a))
      (λ q. agree_first a ∙ ap reached q)

zipped_nowhere : (is ss : List ℕ) (id : ℕ) → Nowhere is id → last_start (zipped is ss) id ≡ nowhere
unfolding zipped last_start
zipped_nowhere [] ss id n = refl
zipped_nowhere (i ∷ is) [] id n = refl
zipped_nowhere (i ∷ is) (s ∷ ss) id n =
    ap (λ (y : Target). or_this y (record { id = i; slot = s }) id) (zipped_nowhere is ss id (record { never = λ j l q. n.never (suc j) (omega arith) q }))
    ∙ or_other nowhere _ id (λ q. n.never 0 (omega arith) q)

zipped_here : (is ss : List ℕ) (id k : ℕ) → length is ≤ length ss → Here is id k → last_start (zipped is ss) id ≡ to (get_or ss k 0)
unfolding zipped last_start or_this
zipped_here [] ss id k h n = absurd (omega (arith, n.inside))
zipped_here (i ∷ is) [] id k h n = absurd (omega arith)
zipped_here (i ∷ is) (s ∷ ss) id zero h n =
    ap (λ (y : Target). or_this y (record { id = i; slot = s }) id) (zipped_nowhere is ss id (record { never = λ j l q. n.last (suc j) (omega arith) (omega arith) q }))
    ∙ or_this_lem (record { id = i; slot = s }) id n.there
zipped_here (i ∷ is) (s ∷ ss) id (suc k) h n =
    ap (λ (y : Target). or_this y (record { id = i; slot = s }) id) (zipped_here is ss id k (omega arith) (record { inside = omega (arith, n.inside); there = n.there; last = λ j l m q. n.last (suc j) (omega arith) (omega arith) q }))

pub edges_count : (c : Context) (e : ℕ → Bool) (k j s : ℕ) (bs : List BasicBlock) → length (edges c e k j s bs) ≡ suc (length bs)
unfolding edges
edges_count c e k j s [] = refl
edges_count c e k j s (b ∷ bs) = ap suc (edges_count c e (suc k) _ _ bs)

module _ (c : Context) (e reached : ℕ → Bool) (j s : ℕ) (bs : List BasicBlock) (a : Agree e reached 0 bs) (few : length bs ≤ 1024) (past : e 1024 ≡ false) (id : ℕ) where
  abbrev number : ℕ
  number = number_from 0 (ids bs) id

  abbrev Lands : Type 0
  Lands = last_start (starts_from c j s (keep_by e 0 bs)) id ≡ pick (e number) (to (get_or (edges c e 0 j s bs) number 0)) nowhere

  when_here : Here (ids bs) id number → Lands
  when_here h =
      let f = ap e (sym (zero-add number)) ∙ a.at number (omega (arith, h.inside, ids_count bs)) ∙ ap reached h.there in
      all_starts c e reached id 0 j s bs a
      ∙ ap (λ (y : Target). pick (reached id) y nowhere) (zipped_here (ids bs) _ id number (omega (arith, edges_count c e 0 j s bs, ids_count bs)) h)
      ∙ ap (λ (t : Bool). pick t (to (get_or (edges c e 0 j s bs) number 0)) nowhere) (sym f)

  when_nowhere : number ≡ 1024 → Nowhere (ids bs) id → Lands
  when_nowhere q n =
      all_starts c e reached id 0 j s bs a
      ∙ ap (λ (y : Target). pick (reached id) y nowhere) (zipped_nowhere (ids bs) _ id n)
      ∙ sym (none_either (reached id))
      ∙ ap (λ (t : Bool). pick t (to (get_or (edges c e 0 j s bs) number 0)) nowhere) (sym past ∙ ap e (sym q))

  -- a target's slot, by the number of the last block that has the id
  pub located : Lands
  located = ⊎_elim when_here (λ n. when_nowhere n.0 n.1) (number_law (ids bs) id (omega (arith, ids_count bs)))
