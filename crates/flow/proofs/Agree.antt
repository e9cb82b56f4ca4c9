-- The computed reached ids are the least set that holds the first block's id and the targets of the last block of each id in it.
use mathlib.Core.Path.{◌≡◌, refl, sym, ap, ◌∙◌, subst}
use mathlib.Core.Bool.{true, false}
use mathlib.Core.Logic.{⊎_elim}
use mathlib.Core.List.{List, [], ◌∷◌}
use Prim.Native.Nat.{ℕ, zero, suc, ◌+◌, ◌≤◌, ◌<◌, zero-le}
use native.Mathlib.Omega.{arith}
use borrow.Author.Tests.{eqb-true}
use lib.Dec.{eqb}
use lib.ListN.{length}
use Rattle.std.proofs.lemmas.Bool.{both_ways, cases_Bool, cases_lt}
use Rattle.wire.specs.Pick.{pick}
use Rattle.flow.specs.Node.{Node, among, Found, found, none, or_this, last_with}
use Rattle.flow.specs.Reached.{Reached, first, target}
use Rattle.flow.specs.Computed.{join, targets_of, sweep, sweeps, first_id, reached_ids, is_reached}
use Rattle.flow.proofs.Members.{among_none, among_first, among_later, among_cases, Within, within_trans, pick_ind, join_keeps, join_has, join_from, join_same}

-- ---- a sweep

-- the ids after one block
abbrev grown : List Node → Node → List ℕ → List ℕ
grown all n ids = pick (among n.id ids) (join (targets_of (last_with all n.id)) ids) ids

grown_keeps : (all : List Node) (n : Node) (ids : List ℕ) → Within ids (grown all n ids)
grown_keeps all n ids =
    pick_ind (Within ids) (among n.id ids) (join (targets_of (last_with all n.id)) ids) ids
    (λ _. join_keeps (targets_of (last_with all n.id)) ids) (λ _. record { each = λ x h. h })

sweep_keeps : (all ns : List Node) (ids : List ℕ) → Within ids (sweep all ns ids)
unfolding sweep
sweep_keeps all [] ids = record { each = λ x h. h }
sweep_keeps all (n ∷ ns) ids = within_trans (grown_keeps all n ids) (sweep_keeps all ns (grown all n ids))

sweeps_keeps : (k : ℕ) (ns : List Node) (ids : List ℕ) → Within ids (sweeps k ns ids)
unfolding sweeps
sweeps_keeps zero ns ids = record { each = λ x h. h }
sweeps_keeps (suc k) ns ids = within_trans (sweep_keeps ns ns ids) (sweeps_keeps k ns (sweep ns ns ids))

abbrev ids_of : List Node → List ℕ
ids_of [] = []
ids_of (n ∷ ns) = n.id ∷ ids_of ns

ids_of_length : (ns : List Node) → length (ids_of ns) ≡ length ns
ids_of_length [] = refl
ids_of_length (n ∷ ns) = ap suc (ids_of_length ns)

-- the targets of a block's id that was there are there afterwards
sweep_has : (all ns : List Node) (ids : List ℕ) (id t : ℕ) → among id (ids_of ns) ≡ true → among id ids ≡ true → among t (targets_of (last_with all id)) ≡ true → among t (sweep all ns ids) ≡ true
unfolding sweep
sweep_has all [] ids id t b h k = absurd (among_none id b)
sweep_has all (n ∷ ns) ids id t b h k =
    ⊎_elim (λ (e : id ≡ n.id).
    (sweep_keeps all ns (grown all n ids)).each t
    (subst (λ (i : ℕ). among i ids ≡ true → among t (targets_of (last_with all i)) ≡ true → among t (grown all n ids) ≡ true) (sym e) here h k))
    (λ (c : among id (ids_of ns) ≡ true). sweep_has all ns (grown all n ids) id t c ((grown_keeps all n ids).each id h) k)
    (among_cases id n.id (ids_of ns) b)
  where
    here : among n.id ids ≡ true → among t (targets_of (last_with all n.id)) ≡ true → among t (grown all n ids) ≡ true
    here a d = rw a ((join_has (targets_of (last_with all n.id)) ids).each t d)

-- ---- soundness

record Sound (ns : List Node) (ids : List ℕ) : Type 0 where
  each : (x : ℕ) → among x ids ≡ true → Reached ns x

reached_target : (ns : List Node) (id t : ℕ) → Reached ns id → among t (targets_of (last_with ns id)) ≡ true → Reached ns t
unfolding targets_of
reached_target ns id t r h = go (last_with ns id) refl h
  where
    go : (f : Found) → last_with ns id ≡ f → among t (targets_of f) ≡ true → Reached ns t
    go (found n) e k = target r e k
    go none e k = absurd (among_none t k)

sweep_sound : (all ns : List Node) (ids : List ℕ) → Sound all ids → Sound all (sweep all ns ids)
unfolding sweep
sweep_sound all [] ids h = h
sweep_sound all (n ∷ ns) ids h =
    sweep_sound all ns (grown all n ids)
    (pick_ind (Sound all) (among n.id ids) (join (targets_of (last_with all n.id)) ids) ids
    (λ a. record {
      each = λ x k.
          ⊎_elim (λ (t : among x (targets_of (last_with all n.id)) ≡ true). reached_target all n.id x (h.each n.id a) t)
          (λ (t : among x ids ≡ true). h.each x t) (join_from x (targets_of (last_with all n.id)) ids k);
    })
    (λ _. h))

sweeps_sound : (k : ℕ) (ns : List Node) (ids : List ℕ) → Sound ns ids → Sound ns (sweeps k ns ids)
unfolding sweeps
sweeps_sound zero ns ids h = h
sweeps_sound (suc k) ns ids h = sweeps_sound k ns (sweep ns ns ids) (sweep_sound ns ns ids h)

first_sound : (ns : List Node) → Sound ns (first_id ns)
unfolding first_id
first_sound [] = record { each = λ x h. absurd (among_none x h) }
first_sound (n ∷ ns) =
    record {
      each = λ x h.
          ⊎_elim (λ (e : x ≡ n.id). subst (λ (y : ℕ). Reached (n ∷ ns) y) (sym e) first) (λ (k : among x [] ≡ true). absurd (among_none x k)) (among_cases x n.id [] h);
    }

-- ---- closed sets of ids

record Closed (ns : List Node) (ids : List ℕ) : Type 0 where
  each : (id t : ℕ) → among id ids ≡ true → among t (targets_of (last_with ns id)) ≡ true → among t ids ≡ true

closed_sweep : (all ns : List Node) (ids : List ℕ) → Closed all ids → sweep all ns ids ≡ ids
unfolding sweep
closed_sweep all [] ids h = refl
closed_sweep all (n ∷ ns) ids h = rw (same) (closed_sweep all ns ids h)
  where
    same : grown all n ids ≡ ids
    same = pick_ind (λ (l : List ℕ). l ≡ ids) (among n.id ids) (join (targets_of (last_with all n.id)) ids) ids
        (λ a. join_same (targets_of (last_with all n.id)) ids (record { each = λ x k. h.each n.id x a k })) (λ _. refl)

closed_sweeps : (k : ℕ) (ns : List Node) (ids : List ℕ) → Closed ns ids → sweeps k ns ids ≡ ids
unfolding sweeps
closed_sweeps zero ns ids h = refl
closed_sweeps (suc k) ns ids h = rw (closed_sweep ns ns ids h) (closed_sweeps k ns ids h)

-- how many of some ids are among a list
unfoldable held : List ℕ → List ℕ → ℕ
held [] l = 0
held (x ∷ xs) l = pick (among x l) (suc (held xs l)) (held xs l)

held_in : (x : ℕ) (xs l : List ℕ) → among x l ≡ true → held (x ∷ xs) l ≡ suc (held xs l)
unfolding held
held_in x xs l h = rw h

held_out : (x : ℕ) (xs l : List ℕ) → among x l ≡ false → held (x ∷ xs) l ≡ held xs l
unfolding held
held_out x xs l h = rw h

held_most : (xs l : List ℕ) → held xs l ≤ length xs
unfolding held
held_most [] l = zero-le
held_most (x ∷ xs) l =
    let r = held_most xs l in
    ⊎_elim (λ (h : among x l ≡ true). omega (arith, held_in x xs l h)) (λ (h : among x l ≡ false). omega (arith, held_out x xs l h)) (cases_Bool (among x l))

held_grows : (xs a b : List ℕ) → Within a b → held xs a ≤ held xs b
unfolding held
held_grows [] a b w = zero-le
held_grows (x ∷ xs) a b w =
    let r = held_grows xs a b w in
    ⊎_elim (λ (h : among x a ≡ true). omega (arith, held_in x xs a h, held_in x xs b (w.each x h)))
    (λ (h : among x a ≡ false).
    ⊎_elim (λ (k : among x b ≡ true). omega (arith, held_out x xs a h, held_in x xs b k)) (λ (k : among x b ≡ false). omega (arith, held_out x xs a h, held_out x xs b k)) (cases_Bool (among x b)))
    (cases_Bool (among x a))

-- where no more are held, those that are held were
held_same : (xs a b : List ℕ) → Within a b → held xs b ≤ held xs a → (y : ℕ) → among y xs ≡ true → among y b ≡ true → among y a ≡ true
held_same [] a b w m y h k = absurd (among_none y h)
held_same (x ∷ xs) a b w m y h k =
    let r = held_grows xs a b w in
    ⊎_elim (λ (p : among x a ≡ true).
    ⊎_elim (λ (e : y ≡ x). ap (λ (z : ℕ). among z a) e ∙ p)
    (λ (q : among y xs ≡ true). held_same xs a b w (omega (arith, held_in x xs a p, held_in x xs b (w.each x p))) y q k) (among_cases y x xs h))
    (λ (p : among x a ≡ false).
    ⊎_elim (λ (q : among x b ≡ true). absurd (omega (arith, held_out x xs a p, held_in x xs b q)))
    (λ (q : among x b ≡ false).
    ⊎_elim (λ (e : y ≡ x). absurd (both_ways (among x b) q (ap (λ (z : ℕ). among z b) (sym e) ∙ k)))
    (λ (s : among y xs ≡ true). held_same xs a b w (omega (arith, held_out x xs a p, held_out x xs b q)) y s k) (among_cases y x xs h))
    (cases_Bool (among x b)))
    (cases_Bool (among x a))

-- an id with targets has a block
has_block : (ns : List Node) (id t : ℕ) → among t (targets_of (last_with ns id)) ≡ true → among id (ids_of ns) ≡ true
unfolding last_with or_this targets_of
has_block [] id t h = absurd (among_none t h)
has_block (n ∷ ns) id t h = go (last_with ns id) (has_block ns id t) h
  where
    go : (f : Found) → (among t (targets_of f) ≡ true → among id (ids_of ns) ≡ true) → among t (targets_of (or_this f n id)) ≡ true → among id (n.id ∷ ids_of ns) ≡ true
    go (found m) r k = among_later id n.id (ids_of ns) (r k)
    go none r k =
        ⊎_elim (λ (a : eqb n.id id ≡ true). among_first id n.id (ids_of ns) (sym (eqb-true n.id id a)))
        (λ (a : eqb n.id id ≡ false). absurd (among_none t (rw a at k))) (cases_Bool (eqb n.id id))

closed_after : (ns : List Node) (ids : List ℕ) → held (ids_of ns) (sweep ns ns ids) ≤ held (ids_of ns) ids → Closed ns (sweep ns ns ids)
closed_after ns ids m =
    record {
      each = λ id t h k.
          let b = has_block ns id t k in
          sweep_has ns ns ids id t b (held_same (ids_of ns) ids (sweep ns ns ids) (sweep_keeps ns ns ids) m id b h) k;
    }

-- each sweep that leaves the set open brings a block's id that was not there
sweeps_closed : (k : ℕ) (ns : List Node) (ids : List ℕ) → length ns < k + held (ids_of ns) ids → Closed ns (sweeps k ns ids)
unfolding sweeps
sweeps_closed zero ns ids h = absurd (omega (arith, held_most (ids_of ns) ids, ids_of_length ns))
sweeps_closed (suc k) ns ids h =
    ⊎_elim (λ (m : held (ids_of ns) ids < held (ids_of ns) (sweep ns ns ids)). sweeps_closed k ns (sweep ns ns ids) (omega arith))
    (λ (m : held (ids_of ns) (sweep ns ns ids) ≤ held (ids_of ns) ids). let c = closed_after ns ids m in rw (closed_sweeps k ns (sweep ns ns ids) c) c)
    (cases_lt (held (ids_of ns) ids) (held (ids_of ns) (sweep ns ns ids)))

reached_closed : (ns : List Node) → Closed ns (reached_ids ns)
unfolding reached_ids first_id last_with targets_of
reached_closed [] = record { each = λ id t h k. absurd (among_none t k) }
reached_closed (n ∷ ns) =
    sweeps_closed (length (n ∷ ns)) (n ∷ ns) (n.id ∷ []) (omega (arith, held_in n.id (ids_of ns) (n.id ∷ []) (among_first n.id n.id [] refl)))

-- ---- the theorem

complete : {ns : List Node} {id : ℕ} → Reached ns id → is_reached ns id ≡ true
unfolding is_reached reached_ids first_id targets_of
complete (first {n} {ns}) = (sweeps_keeps (length (n ∷ ns)) (n ∷ ns) (n.id ∷ [])).each n.id (among_first n.id n.id [] refl)
complete (target {ns} {id} {t} {n} r e h) = (reached_closed ns).each id t (complete r) (ap (λ (f : Found). among t (targets_of f)) e ∙ h)

pub computed_reached : (ns : List Node) (id : ℕ) → (is_reached ns id ≡ true → Reached ns id) × (Reached ns id → is_reached ns id ≡ true)
unfolding is_reached reached_ids
computed_reached ns id = ((sweeps_sound (length ns) ns (first_id ns) (first_sound ns)).each id, complete)

-- the targets of the last block of a reached id are reached
pub reached_targets : (ns : List Node) (id t : ℕ) {m : Node} → is_reached ns id ≡ true → last_with ns id ≡ found m → among t m.targets ≡ true → is_reached ns t ≡ true
reached_targets ns id t h e a = complete (target ((computed_reached ns id).0 h) e a)
