-- Laws of the sort keys: what the search for an id's last block finds.
use Rattle.std.proofs.Common.{min, zero-le, ◌≡◌, ◌∙◌, sym, ap, refl, ⊎_elim, List, [], ◌∷◌, ℕ, zero, suc, ◌+◌, ◌-◌, ◌*◌, ◌%◌, ◌≤◌, ◌<◌, length, get_or, IsPermutation, add-zero, le_of_suc-le-suc, not-suc-le-zero, arith, ext_get_or}
use Rattle.std.specs.List.Sorted.{IsNonDecreasing, IsPartitionPoint}
use Rattle.std.proofs.lemmas.Bool.{cases_lt}
use Rattle.std.proofs.lemmas.List.Elements.{Contains-get_or}
use Rattle.std.proofs.lemmas.List.{get_or_default}
use Rattle.std.proofs.lemmas.List.Sorted.{Contains-permutation, IsPermutation-sym, length_permutation}
use Rattle.sort.specs.Sorted.{sorted, sorted_front}
use Rattle.sort.proofs.Laws.{sorted_moves, sorted_rises, front_all}
use Rattle.flow.specs.Linked.{number_from}
use Rattle.flow.specs.Keys.{keys_from}
use Rattle.flow.proofs.Numbers.{number_here, number_nowhere}

keys_length : (i : ℕ) (ids : List ℕ) → length (keys_from i ids) ≡ length ids
unfolding keys_from
keys_length i [] = refl
keys_length i (x ∷ ids) = ap suc (keys_length (suc i) ids)

keys_at : (i : ℕ) (ids : List ℕ) (k : ℕ) → k < length ids → get_or (keys_from i ids) k 0 ≡ get_or ids k 0 * 1024 + (i + k)
unfolding keys_from
keys_at i [] k h = absurd (not-suc-le-zero h)
keys_at i (x ∷ ids) zero h = rw (add-zero i)
keys_at i (x ∷ ids) (suc k) h = keys_at (suc i) ids k (le_of_suc-le-suc h) ∙ omega arith

-- a list of these keys, one by one
pub keys_are : (ids keys : List ℕ) → length keys ≡ length ids → ((k : ℕ) → k < length ids → get_or keys k 0 ≡ get_or ids k 0 * 1024 + k) → keys ≡ keys_from 0 ids
keys_are ids keys e f =
    ext_get_or 0 keys (keys_from 0 ids) (e ∙ sym (keys_length 0 ids)) (λ k h. let b : k < length ids = omega (arith, e) in omega (arith, f k b, keys_at 0 ids k b))

-- ---- the keys, sorted

pub keys_sorted : (ids : List ℕ) {keys after : List ℕ} → length ids ≤ 1024 → keys ≡ keys_from 0 ids → after ≡ sorted_front (min (length ids) 1024) keys → after ≡ sorted (keys_from 0 ids)
keys_sorted ids {keys} h k a = a ∙ front_all (min (length ids) 1024) keys (omega (arith, ap length k, keys_length 0 ids)) ∙ ap sorted k

module _ (ids : List ℕ) {keys : List ℕ} (sorts : keys ≡ sorted (keys_from 0 ids)) where
  moves : IsPermutation (keys_from 0 ids) keys
  moves = rw sorts (sorted_moves (keys_from 0 ids))

  pub keys_rise : IsNonDecreasing keys
  keys_rise = rw sorts (sorted_rises (keys_from 0 ids))

  keys_count : length keys ≡ length ids
  keys_count = length_permutation (keys_from 0 ids) keys moves ∙ keys_length 0 ids

  -- block j's key is there
  key_in : (j : ℕ) → j < length ids → (k : ℕ) × (k < length keys) × (get_or keys k 0 ≡ get_or ids j 0 * 1024 + j)
  key_in j h =
      let key = get_or (keys_from 0 ids) j 0 in
      let c = Contains-permutation (keys_from 0 ids) keys key moves (Contains-get_or (keys_from 0 ids) j 0 (omega (arith, keys_length 0 ids))) in
      (c.0, c.1, omega (arith, get_or_default keys c.0 0 key c.1, c.2, keys_at 0 ids j h))

  -- each key is a block's
  key_of : (k : ℕ) → k < length keys → (j : ℕ) × (j < length ids) × (get_or keys k 0 ≡ get_or ids j 0 * 1024 + j)
  key_of k h =
      let key = get_or keys k 0 in
      let c = Contains-permutation keys (keys_from 0 ids) key (IsPermutation-sym (keys_from 0 ids) keys moves) (Contains-get_or keys k 0 h) in
      let b : c.0 < length ids = omega (arith, c.1, keys_length 0 ids) in
      (c.0, b, omega (arith, get_or_default (keys_from 0 ids) c.0 0 key c.1, c.2, keys_at 0 ids c.0 b))

  -- ---- the search

  -- where the keys below an id's bound end
  module _ (few : length ids ≤ 1024) (id : ℕ) {bound past : ℕ} (next : bound ≡ id * 1024 + 1024) (most : past ≤ length keys) (cut : IsPartitionPoint (λ (y : ℕ). y < bound) (λ (y : ℕ). bound ≤ y) keys past) where
    -- the key of a block with the id stands below the bound
    key_under : (j : ℕ) → j < length ids → get_or ids j 0 ≡ id → (k : ℕ) × (k < past) × (get_or keys k 0 ≡ id * 1024 + j)
    key_under j h e =
        let a = key_in j h in
        let t = rw e at a.2 in
        (a.0, ⊎_elim (λ (q : a.0 < past). q) (λ (q : past ≤ a.0). absurd (omega (arith, t, cut.1 a.0 0 q a.1))) (cases_lt a.0 past), t)

    pub find_none : past ≡ 0 → 1024 ≡ number_from 0 ids id
    find_none z = sym (number_nowhere 0 ids id (record { never = λ j b e. let u = key_under j b e in omega (arith, u.1) }))

    module _ (z : 0 < past) where
      -- the number in the last key below the bound
      abbrev pub found : ℕ
      found = get_or keys (past - 1) 0 % 1024

      -- that key is the block's that has the number
      last_key : (found < length ids) × (get_or keys (past - 1) 0 ≡ get_or ids found 0 * 1024 + found)
      last_key =
          let o = key_of (past - 1) (omega arith) in
          let r : found ≡ o.0 = omega (arith, o.1, o.2) in
          rw r (o.1, o.2)

      pub found_block : found < length ids
      found_block = last_key.0

      -- a key below the bound is at most that key
      under_last : (k : ℕ) → k < past → get_or keys k 0 ≤ get_or keys (past - 1) 0
      under_last k h = keys_rise k (past - 1) 0 (omega arith) (omega arith)

      pub find_here : get_or ids found 0 ≡ id → found ≡ number_from 0 ids id
      find_here e =
          let q = last_key in
          sym (number_here ids id found few
          (record {
            inside = q.0;
            there = e;
            last = λ j l s t. let u = key_under j s t in omega (arith, u.2, q.1, under_last u.0 u.1, e);
          }))

      pub find_other : (get_or ids found 0 ≡ id → ⊥) → 1024 ≡ number_from 0 ids id
      find_other f =
          let q = last_key in
          sym (number_nowhere 0 ids id
          (record {
            never = λ j s t. let u = key_under j s t in f (omega (arith, u.2, q.0, q.1, cut.0 (past - 1) 0 zero-le (omega arith), under_last u.0 u.1));
          }))
