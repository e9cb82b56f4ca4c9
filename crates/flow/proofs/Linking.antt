-- Ways over block numbers and reached ids are the same, so the marks of the last blocks are the flags.
use Rattle.std.proofs.Common.{◌≡◌, ◌∙◌, refl, sym, ap, subst, ⊎_elim, Bool, true, false, List, [], ◌∷◌, ◌++◌, ℕ, zero, suc, ◌+◌, ◌*◌, ◌≤◌, ◌<◌, length, get_or, take, drop, length-take-le, get_or-take, le_of_suc-le-suc, not-suc-le-zero, ext_get_or, arith}
use Rattle.std.proofs.lemmas.Bool.{cases_Bool}
use Rattle.wire.specs.Pick.{pick}
use Rattle.flow.specs.Node.{Node, found, last_with}
use Rattle.flow.specs.Reached.{Reached, first, target}
use Rattle.flow.specs.Computed.{is_reached}
use Rattle.flow.specs.Linked.{targets_at, nodes_from, nodes, number_from, numbers, flags, linked_targets, linked_flags}
use Rattle.flow.specs.Way.{outs, Way, start, go, Marked}
use Rattle.flow.proofs.Members.{among_at}
use Rattle.flow.proofs.Agree.{computed_reached}
use Rattle.flow.proofs.Numbers.{Here, number_inside, number_block, last_here, found_number, target_place, nodes_length, nodes_at, nodes_are}
use Rattle.flow.proofs.Passes.{numbers_length, numbers_at, flag, flags_length, flags_at}
use Rattle.flow.proofs.Laws.{stored}

-- ---- ways and reached ids

first_reached : (ids counts targets : List ℕ) → 0 < length ids → Reached (nodes ids counts targets) (get_or ids 0 0)
unfolding nodes nodes_from
first_reached [] counts targets h = absurd (not-suc-le-zero h)
first_reached (x ∷ ids) counts targets h = first

module _ (ids counts targets : List ℕ) (few : length ids ≤ 1024) (room : length targets ≡ 2 * length ids) where
  outs_length : (b : ℕ) → length (outs counts (numbers ids targets) b) ≡ length (outs counts targets b)
  unfolding targets_at
  outs_length b = by (get_or counts b 0)
    where
      by : (c : ℕ) → length (targets_at c b (numbers ids targets)) ≡ length (targets_at c b targets)
      by zero = refl
      by (suc zero) = refl
      by (suc (suc c)) = refl

  outs_at : (b : ℕ) → b < length ids → (i : ℕ) → i < length (outs counts targets b) → get_or (outs counts (numbers ids targets) b) i 0 ≡ number_from 0 ids (get_or (outs counts targets b) i 0)
  unfolding targets_at
  outs_at b h = by (get_or counts b 0)
    where
      by : (c i : ℕ) → i < length (targets_at c b targets) → get_or (targets_at c b (numbers ids targets)) i 0 ≡ number_from 0 ids (get_or (targets_at c b targets) i 0)
      by zero i l = absurd (not-suc-le-zero l)
      by (suc zero) zero l = numbers_at ids targets (2 * b) (omega arith)
      by (suc zero) (suc i) l = absurd (not-suc-le-zero (le_of_suc-le-suc l))
      by (suc (suc c)) zero l = numbers_at ids targets (2 * b) (omega arith)
      by (suc (suc c)) (suc zero) l = numbers_at ids targets (2 * b + 1) (omega arith)
      by (suc (suc c)) (suc (suc i)) l = absurd (not-suc-le-zero (le_of_suc-le-suc (le_of_suc-le-suc l)))

  -- a way from the first block's number
  abbrev FromFirst : ℕ → Type 0
  FromFirst = Way (length ids) (number_from 0 ids (get_or ids 0 0)) counts (numbers ids targets)

  -- what stands at a way's end
  record Landed (b : ℕ) : Type 0 where
    here : Here ids (get_or ids b 0) b
    reached : Reached (nodes ids counts targets) (get_or ids b 0)

  land : (t b : ℕ) → number_from 0 ids t ≡ b → b < length ids → (Here ids t b → Reached (nodes ids counts targets) t) → Landed b
  land t b e l r =
      let h : Here ids t b = subst (Here ids t) e (number_inside ids t few (omega (arith, e))) in
      record { here = rw h.there h; reached = rw h.there (r h) }

  way_lands : {b : ℕ} → FromFirst b → b < length ids → Landed b
  way_lands start l = land (get_or ids 0 0) (number_from 0 ids (get_or ids 0 0)) refl l (λ h. first_reached ids counts targets (omega (arith, h.inside)))
  way_lands (go {b} w s i h) l =
      let p = way_lands w s in
      let q : i < length (outs counts targets b) = omega (arith, outs_length b) in
      land (get_or (outs counts targets b) i 0) (get_or (outs counts (numbers ids targets) b) i 0) (sym (outs_at b p.here.inside i q)) l
      (λ _. target p.reached (last_here counts targets ids (get_or ids b 0) b p.here) (among_at (outs counts targets b) i q))

  reached_way : {ns : List Node} {id : ℕ} → Reached ns id → ns ≡ nodes ids counts targets → FromFirst (number_from 0 ids id)
  reached_way (first {n = m}) e =
      let l : 0 < length ids = omega (arith, ap length e, nodes_length counts targets ids) in
      let i : m.id ≡ get_or ids 0 0 = ap (λ (k : List Node). (get_or k 0 m).id) e ∙ ap (λ (k : Node). k.id) (nodes_at counts targets ids 0 m l) in
      subst (λ (y : ℕ). FromFirst (number_from 0 ids y)) (sym i) start
  reached_way (target {id = id} {t = t} {n = m} r f a) e =
      let g : last_with (nodes ids counts targets) id ≡ found m = ap (λ (k : List Node). last_with k id) (sym e) ∙ f in
      let b = number_from 0 ids id in
      let h = found_number counts targets ids id few g in
      let p = target_place counts targets ids id b h t g a in
      subst FromFirst (outs_at b h.inside p.0 p.1 ∙ ap (number_from 0 ids) p.2) (go (reached_way r e) h.inside p.0 (omega (arith, p.1, outs_length b)))

  -- ---- marks are flags

  module _ {first : ℕ} {after : List ℕ} {marks : List Bool} (f : first ≡ number_from 0 ids (get_or ids 0 0)) (t : after ≡ numbers ids targets) (marked : Marked (length ids) first counts after marks) where
    marked_ways : Marked (length ids) (number_from 0 ids (get_or ids 0 0)) counts (numbers ids targets) marks
    marked_ways = subst (λ (u : List ℕ). Marked (length ids) (number_from 0 ids (get_or ids 0 0)) counts u marks) t (subst (λ (i : ℕ). Marked (length ids) i counts after marks) f marked)

    flag_at : (i : ℕ) → i < length ids → pick (get_or marks (number_from 0 ids (get_or ids i 0)) false) 1 0 ≡ flag (nodes ids counts targets) (get_or ids i 0)
    flag_at i h =
        let ns = nodes ids counts targets in
        let id = get_or ids i 0 in
        let b = number_from 0 ids id in
        let l = number_block ids i few h in
        ⊎_elim (λ (y : (get_or marks b false ≡ true) × FromFirst b).
        let r = subst (Reached ns) (number_inside ids id few (omega arith)).there (way_lands y.1 l).reached in
        rw ((computed_reached ns id).1 r, y.0))
        (λ (y : (get_or marks b false ≡ false) × (FromFirst b → ⊥)).
        ⊎_elim (λ (t : is_reached ns id ≡ true). absurd (y.1 (reached_way ((computed_reached ns id).0 t) refl))) (λ (f : is_reached ns id ≡ false). rw (f, y.0)) (cases_Bool (is_reached ns id)))
        (marked_ways.each b l)

    -- what is left where each block's flag is the mark of the last block with its id
    pub flags_linked : (emitted : List ℕ) → length emitted ≡ length ids → ((i : ℕ) → i < length ids → get_or emitted i 0 ≡ pick (get_or marks (number_from 0 ids (get_or ids i 0)) false) 1 0) → emitted ≡ flags (nodes ids counts targets) ids
    flags_linked emitted e g =
        let ns = nodes ids counts targets in
        ext_get_or 0 emitted (flags ns ids) (e ∙ sym (flags_length ns ids))
        (λ i h. let l : i < length ids = omega (arith, e) in g i l ∙ flag_at i l ∙ sym (flags_at ns ids i l))

-- ---- the lists at whose front the blocks stand

module _ (n : ℕ) (ids counts targets emitted : List ℕ) (i : n ≤ length ids) (t : 2 * n ≤ length targets) (e : n ≤ length emitted) where
  outs_front : (b : ℕ) → b < n → outs (take n counts) (take (2 * n) targets) b ≡ outs counts targets b
  unfolding targets_at
  outs_front b h = rw (get_or-take n counts b 0 h) (by (get_or counts b 0))
    where
      by : (c : ℕ) → targets_at c b (take (2 * n) targets) ≡ targets_at c b targets
      by zero = refl
      by (suc zero) = rw (get_or-take (2 * n) targets (2 * b) 0 (omega arith))
      by (suc (suc c)) = rw (get_or-take (2 * n) targets (2 * b) 0 (omega arith), get_or-take (2 * n) targets (2 * b + 1) 0 (omega arith))

  nodes_front : nodes (take n ids) (take n counts) (take (2 * n) targets) ≡ nodes (take n ids) counts targets
  nodes_front =
      let d : Node = record { id = 0; targets = [] } in
      nodes_are (take n counts) (take (2 * n) targets) (take n ids) (nodes (take n ids) counts targets) d (nodes_length counts targets (take n ids))
      (λ k h.
      let l : k < n = omega (arith, length-take-le n ids i) in
      nodes_at counts targets (take n ids) k d h ∙ ap (λ (o : List ℕ). record { id = get_or (take n ids) k 0; targets = o }) (sym (outs_front k l)))

  pub targets_front : numbers (take n ids) (take (2 * n) targets) ++ drop (2 * n) targets ≡ linked_targets n ids targets
  unfolding linked_targets
  targets_front =
      let v = numbers (take n ids) (take (2 * n) targets) in
      let l : length v ≡ 2 * n = numbers_length (take n ids) (take (2 * n) targets) ∙ length-take-le (2 * n) targets t in
      sym (stored v targets (omega arith) ∙ ap (λ (k : ℕ). v ++ drop k targets) l)

  pub flags_front : flags (nodes (take n ids) (take n counts) (take (2 * n) targets)) (take n ids) ++ drop n emitted ≡ linked_flags n ids counts targets emitted
  unfolding linked_flags
  flags_front =
      let v = flags (nodes (take n ids) counts targets) (take n ids) in
      let l : length v ≡ n = flags_length (nodes (take n ids) counts targets) (take n ids) ∙ length-take-le n ids i in
      rw nodes_front (sym (stored v emitted (omega arith) ∙ ap (λ (k : ℕ). v ++ drop k emitted) l))
