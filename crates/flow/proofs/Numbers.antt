-- Laws of block numbers: what the number of an id means, and the block that stands there.
use mathlib.Core.Path.{◌≡◌, refl, sym, ap, ◌∙◌, subst}
use mathlib.Core.Bool.{true, false}
use mathlib.Core.Logic.{◌⊎◌, inl, inr, ⊎_elim}
use mathlib.Core.List.{List, [], ◌∷◌}
use Prim.Native.Nat.{ℕ, zero, suc, ◌+◌, ◌≤◌, ◌<◌, zero-le, suc-le-suc}
use native.Mathlib.Nat.{le_of_suc-le-suc, not-suc-le-zero, add-zero, zero-add}
use native.Mathlib.Omega.{arith}
use borrow.Author.Tests.{eq-eqb, ne_eqb, eqb-true, eqb-false}
use Rattle.std.proofs.lemmas.Bool.{cases_Bool}
use lib.Dec.{eqb}
use lib.ListN.{length, get_or}
use lib.Seq.{ext_get_or}
use Rattle.flow.specs.Node.{Node, among, found, none, or_this, last_with}
use Rattle.flow.specs.Linked.{nodes_from, nodes, number_from}
use Rattle.flow.specs.Way.{outs}
use Rattle.flow.proofs.Members.{among_place}

-- ---- the last place of an id

-- the last block with an id is block k
pub record Here (ids : List ℕ) (id k : ℕ) : Type 0 where
  pub inside : k < length ids
  pub there : get_or ids k 0 ≡ id
  pub last : (j : ℕ) → k < j → j < length ids → get_or ids j 0 ≡ id → ⊥

-- no block has an id
pub record Nowhere (ids : List ℕ) (id : ℕ) : Type 0 where
  pub never : (j : ℕ) → j < length ids → get_or ids j 0 ≡ id → ⊥

module _ {x : ℕ} {ids : List ℕ} {id : ℕ} where
  here_first : x ≡ id → Nowhere ids id → Here (x ∷ ids) id 0
  here_first e n = record { inside = suc-le-suc zero-le; there = e; last = go }
    where
      go : (j : ℕ) → 0 < j → j < length (x ∷ ids) → get_or (x ∷ ids) j 0 ≡ id → ⊥
      go zero a b q = not-suc-le-zero a
      go (suc j) a b q = n.never j (le_of_suc-le-suc b) q

  here_later : {k : ℕ} → Here ids id k → Here (x ∷ ids) id (suc k)
  here_later {k} h = record { inside = suc-le-suc h.inside; there = h.there; last = go }
    where
      go : (j : ℕ) → suc k < j → j < length (x ∷ ids) → get_or (x ∷ ids) j 0 ≡ id → ⊥
      go zero a b q = not-suc-le-zero a
      go (suc j) a b q = h.last j (le_of_suc-le-suc a) (le_of_suc-le-suc b) q

  here_tail : {k : ℕ} → Here (x ∷ ids) id (suc k) → Here ids id k
  here_tail h = record { inside = le_of_suc-le-suc h.inside; there = h.there; last = λ j a b. h.last (suc j) (suc-le-suc a) (suc-le-suc b) }

  here_rest : Here (x ∷ ids) id 0 → Nowhere ids id
  here_rest h = record { never = λ j b. h.last (suc j) (suc-le-suc zero-le) (suc-le-suc b) }

  nowhere_cons : (x ≡ id → ⊥) → Nowhere ids id → Nowhere (x ∷ ids) id
  nowhere_cons f n = record { never = go }
    where
      go : (j : ℕ) → j < length (x ∷ ids) → get_or (x ∷ ids) j 0 ≡ id → ⊥
      go zero b q = f q
      go (suc j) b q = n.never j (le_of_suc-le-suc b) q

  nowhere_tail : Nowhere (x ∷ ids) id → Nowhere ids id
  nowhere_tail n = record { never = λ j b. n.never (suc j) (suc-le-suc b) }

seek : (ids : List ℕ) (id : ℕ) → ((k : ℕ) × Here ids id k) ⊎ Nowhere ids id
seek [] id = inr (record { never = λ j b q. not-suc-le-zero b })
seek (x ∷ ids) id =
    ⊎_elim (λ (p : (k : ℕ) × Here ids id k). inl (suc p.0, here_later p.1))
    (λ (n : Nowhere ids id).
    ⊎_elim (λ (t : eqb x id ≡ true). inl (0, here_first (eqb-true x id t) n)) (λ (f : eqb x id ≡ false). inr (nowhere_cons (eqb-false x id f) n)) (cases_Bool (eqb x id)))
    (seek ids id)

-- ---- the number of an id

pub number_nowhere : (i : ℕ) (ids : List ℕ) (id : ℕ) → Nowhere ids id → number_from i ids id ≡ 1024
unfolding number_from
number_nowhere i [] id n = refl
number_nowhere i (x ∷ ids) id n = rw (number_nowhere (suc i) ids id (nowhere_tail n), ne_eqb x id (n.never 0 (suc-le-suc zero-le)))

number_from_lem : (i : ℕ) (ids : List ℕ) (id k : ℕ) → i + length ids ≤ 1024 → Here ids id k → number_from i ids id ≡ i + k
unfolding number_from
number_from_lem i [] id k b h = absurd (not-suc-le-zero h.inside)
number_from_lem i (x ∷ ids) id zero b h = rw (number_nowhere (suc i) ids id (here_rest h), eq-eqb x id h.there) (sym (add-zero i))
number_from_lem i (x ∷ ids) id (suc k) b h =
    let f = here_tail h in
    let l = f.inside in
    let e : number_from (suc i) ids id ≡ i + suc k = number_from_lem (suc i) ids id k (omega arith) f ∙ omega arith in
    rw (e, ne_eqb (i + suc k) 1024 (λ q. omega arith))

pub number_here : (ids : List ℕ) (id k : ℕ) → length ids ≤ 1024 → Here ids id k → number_from 0 ids id ≡ k
number_here ids id k b h = number_from_lem 0 ids id k (omega arith) h ∙ zero-add k

-- the number of an id is that of the last block that has it, or 1,024 and no block has it
pub number_law : (ids : List ℕ) (id : ℕ) → length ids ≤ 1024 → Here ids id (number_from 0 ids id) ⊎ ((number_from 0 ids id ≡ 1024) × Nowhere ids id)
number_law ids id b =
    ⊎_elim (λ (p : (k : ℕ) × Here ids id k). inl (subst (Here ids id) (sym (number_here ids id p.0 b p.1)) p.1))
    (λ (n : Nowhere ids id). inr (number_nowhere 0 ids id n, n)) (seek ids id)

-- a number below 1,024 is that of the last block with the id
pub number_inside : (ids : List ℕ) (id : ℕ) → length ids ≤ 1024 → number_from 0 ids id < 1024 → Here ids id (number_from 0 ids id)
number_inside ids id b l =
    ⊎_elim (λ (h : Here ids id (number_from 0 ids id)). h) (λ (n : (number_from 0 ids id ≡ 1024) × Nowhere ids id). absurd (omega (arith, n.0))) (number_law ids id b)

-- a block's id has a number
pub number_block : (ids : List ℕ) (i : ℕ) → length ids ≤ 1024 → i < length ids → number_from 0 ids (get_or ids i 0) < length ids
number_block ids i b l =
    ⊎_elim (λ (h : Here ids (get_or ids i 0) (number_from 0 ids (get_or ids i 0))). h.inside)
    (λ (n : (number_from 0 ids (get_or ids i 0) ≡ 1024) × Nowhere ids (get_or ids i 0)). absurd (n.1.never i l refl)) (number_law ids (get_or ids i 0) b)

-- ---- the block of a number

-- block b, whose id is id
abbrev pub block_at : List ℕ → List ℕ → ℕ → ℕ → Node
block_at counts targets id b = record { id = id; targets = outs counts targets b }

module _ (counts targets : List ℕ) where
  found_nowhere : (i : ℕ) (ids : List ℕ) (id : ℕ) → Nowhere ids id → last_with (nodes_from i ids counts targets) id ≡ none
  unfolding last_with nodes_from or_this
  found_nowhere i [] id n = refl
  found_nowhere i (x ∷ ids) id n = rw (found_nowhere (suc i) ids id (nowhere_tail n), ne_eqb x id (n.never 0 (suc-le-suc zero-le)))

  found_from : (i : ℕ) (ids : List ℕ) (id k : ℕ) → Here ids id k → last_with (nodes_from i ids counts targets) id ≡ found (block_at counts targets id (i + k))
  unfolding last_with nodes_from or_this
  found_from i [] id k h = absurd (not-suc-le-zero h.inside)
  found_from i (x ∷ ids) id zero h =
      rw (found_nowhere (suc i) ids id (here_rest h), eq-eqb x id h.there, add-zero i) (ap (λ (y : ℕ). found (block_at counts targets y i)) h.there)
  found_from i (x ∷ ids) id (suc k) h =
      let e : suc i + k ≡ i + suc k = omega arith in
      rw (found_from (suc i) ids id k (here_tail h), e)

  -- the last block with an id stands at the id's number
  pub last_here : (ids : List ℕ) (id k : ℕ) → Here ids id k → last_with (nodes ids counts targets) id ≡ found (block_at counts targets id k)
  unfolding nodes
  last_here ids id k h = found_from 0 ids id k h ∙ ap (λ (b : ℕ). found (block_at counts targets id b)) (zero-add k)

  pub last_nowhere : (ids : List ℕ) (id : ℕ) → Nowhere ids id → last_with (nodes ids counts targets) id ≡ none
  unfolding nodes
  last_nowhere ids id n = found_nowhere 0 ids id n

  pub last_number : (ids : List ℕ) (id : ℕ) → length ids ≤ 1024 → number_from 0 ids id < 1024 → last_with (nodes ids counts targets) id ≡ found (block_at counts targets id (number_from 0 ids id))
  last_number ids id b l = last_here ids id (number_from 0 ids id) (number_inside ids id b l)

  -- an id that has a block has a number
  pub found_number : (ids : List ℕ) (id : ℕ) {m : Node} → length ids ≤ 1024 → last_with (nodes ids counts targets) id ≡ found m → Here ids id (number_from 0 ids id)
  found_number ids id {m} b e =
      ⊎_elim (λ (h : Here ids id (number_from 0 ids id)). h)
      (λ (n : (number_from 0 ids id ≡ 1024) × Nowhere ids id).
      let z : found m ≡ none = sym e ∙ last_nowhere ids id n.1 in
      let y : ◌≡◌ {A = ℕ} 0 1 = cc in
      absurd (omega arith))
      (number_law ids id b)

  -- a target of the block of an id stands among the targets of its number
  pub target_place : (ids : List ℕ) (id k : ℕ) → Here ids id k → (t : ℕ) {m : Node} → last_with (nodes ids counts targets) id ≡ found m → among t m.targets ≡ true → (i : ℕ) × (i < length (outs counts targets k)) × (get_or (outs counts targets k) i 0 ≡ t)
  target_place ids id k h t {m} e a =
      let o : found (block_at counts targets id k) ≡ found m = sym (last_here ids id k h) ∙ e in
      let q : block_at counts targets id k ≡ m = cc in
      among_place t (outs counts targets k) (ap (λ (n : Node). among t n.targets) q ∙ a)

  nodes_from_length : (i : ℕ) (ids : List ℕ) → length (nodes_from i ids counts targets) ≡ length ids
  unfolding nodes_from
  nodes_from_length i [] = refl
  nodes_from_length i (x ∷ ids) = ap suc (nodes_from_length (suc i) ids)

  pub nodes_length : (ids : List ℕ) → length (nodes ids counts targets) ≡ length ids
  unfolding nodes
  nodes_length ids = nodes_from_length 0 ids

  nodes_from_at : (i : ℕ) (ids : List ℕ) (k : ℕ) (d : Node) → k < length ids → get_or (nodes_from i ids counts targets) k d ≡ block_at counts targets (get_or ids k 0) (i + k)
  unfolding nodes_from
  nodes_from_at i [] k d h = absurd (not-suc-le-zero h)
  nodes_from_at i (x ∷ ids) zero d h = rw (add-zero i)
  nodes_from_at i (x ∷ ids) (suc k) d h =
      let e : suc i + k ≡ i + suc k = omega arith in
      rw (nodes_from_at (suc i) ids k d (le_of_suc-le-suc h), e)

  pub nodes_at : (ids : List ℕ) (k : ℕ) (d : Node) → k < length ids → get_or (nodes ids counts targets) k d ≡ block_at counts targets (get_or ids k 0) k
  unfolding nodes
  nodes_at ids k d h = nodes_from_at 0 ids k d h ∙ ap (block_at counts targets (get_or ids k 0)) (zero-add k)

  -- a list of as many blocks, with these ids and targets, is the list of nodes
  pub nodes_are : (ids : List ℕ) (ns : List Node) (d : Node) → length ns ≡ length ids → ((k : ℕ) → k < length ids → get_or ns k d ≡ block_at counts targets (get_or ids k 0) k) → nodes ids counts targets ≡ ns
  nodes_are ids ns d e f =
      ext_get_or d (nodes ids counts targets) ns (nodes_length ids ∙ sym e)
      (λ k h. let b : k < length ids = omega (arith, nodes_length ids) in nodes_at ids k d b ∙ sym (f k b))
