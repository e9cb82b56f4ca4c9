-- Laws for a caller of `link`: what stands in the lists afterwards, and that an emitted block's targets are reached.
use mathlib.Core.Path.{◌≡◌, ap, ◌∙◌, subst}
use mathlib.Core.Bool.{true}
use mathlib.Core.List.{List, ◌++◌}
use Prim.Native.Nat.{ℕ, ◌*◌, ◌≤◌, ◌<◌}
use native.Mathlib.Nat.{zero-add}
use native.Mathlib.Omega.{arith}
use lib.ListN.{length, get_or, take, drop}
use lib.Seq.{sets, sets-eq, length-take-le, get_or-take}
use Rattle.std.proofs.lemmas.List.{get_or_append_left}
use Rattle.wire.specs.Pick.{pick}
use Rattle.flow.specs.Node.{among}
use Rattle.flow.specs.Computed.{is_reached}
use Rattle.flow.specs.Linked.{nodes, number_from, numbers, flags, linked_targets, linked_flags}
use Rattle.flow.specs.Way.{outs}
use Rattle.flow.proofs.Agree.{reached_targets}
use Rattle.flow.proofs.Numbers.{Here, number_inside, last_here}
use Rattle.flow.proofs.Passes.{numbers_length, numbers_at, flag, flags_length, flags_at}

-- ---- what stands in a list that was stored at the front

pub stored : (v d : List ℕ) → length v ≤ length d → sets d 0 v ≡ v ++ drop (length v) d
stored v d b = let e = zero-add (length v) in sets-eq v d 0 (omega arith) ∙ ap (λ (i : ℕ). v ++ drop i d) e

stored_at : (v d : List ℕ) (i : ℕ) → i < length v → length v ≤ length d → get_or (sets d 0 v) i 0 ≡ get_or v i 0
stored_at v d i h b = ap (λ (l : List ℕ). get_or l i 0) (stored v d b) ∙ get_or_append_left v (drop (length v) d) 0 i h

-- target j is the number of the last block with its id
pub linked_target : (n : ℕ) (ids targets : List ℕ) → 2 * n ≤ length targets → (j : ℕ) → j < 2 * n → get_or (linked_targets n ids targets) j 0 ≡ number_from 0 (take n ids) (get_or targets j 0)
unfolding linked_targets
linked_target n ids targets b j h =
    let v = take (2 * n) targets in
    let l = length-take-le (2 * n) targets b in
    let e = numbers_length (take n ids) v in
    stored_at (numbers (take n ids) v) targets j (omega arith) (omega arith)
    ∙ numbers_at (take n ids) v j (omega arith)
    ∙ ap (number_from 0 (take n ids)) (get_or-take (2 * n) targets j 0 h)

-- block i is emitted where its id is reached
pub linked_flag : (n : ℕ) (ids counts targets emitted : List ℕ) → n ≤ length ids → n ≤ length emitted → (i : ℕ) → i < n → get_or (linked_flags n ids counts targets emitted) i 0 ≡ pick (is_reached (nodes (take n ids) counts targets) (get_or ids i 0)) 1 0
unfolding linked_flags
linked_flag n ids counts targets emitted a b i h =
    let ns = nodes (take n ids) counts targets in
    let l = length-take-le n ids a in
    let e = flags_length ns (take n ids) in
    stored_at (flags ns (take n ids)) emitted i (omega arith) (omega arith)
    ∙ flags_at ns (take n ids) i (omega arith)
    ∙ ap (flag ns) (get_or-take n ids i 0 h)

-- the targets of an emitted block that is the last with its id are reached
pub block_targets : (ids counts targets : List ℕ) (i t : ℕ) → length ids ≤ 1024 → i < length ids → number_from 0 ids (get_or ids i 0) ≡ i → is_reached (nodes ids counts targets) (get_or ids i 0) ≡ true → among t (outs counts targets i) ≡ true → is_reached (nodes ids counts targets) t ≡ true
block_targets ids counts targets i t b l e r a =
    let h : Here ids (get_or ids i 0) i = subst (Here ids (get_or ids i 0)) e (number_inside ids (get_or ids i 0) b (omega (arith, e))) in
    reached_targets (nodes ids counts targets) (get_or ids i 0) t r (last_here counts targets ids (get_or ids i 0) i h) a
