-- An only block is the first, so it is emitted.
use Rattle.std.proofs.Common.{◌≡◌, List, [], ◌∷◌, ℕ, length, set, arith}
use Rattle.flow.specs.Reached.{first}
use Rattle.flow.specs.Linked.{nodes_from, nodes, flags}
use Rattle.flow.proofs.Agree.{computed_reached}

pub one_flags : (id : ℕ) (counts targets emitted : List ℕ) → length emitted ≡ 1 → set emitted 0 1 ≡ flags (nodes (id ∷ []) counts targets) (id ∷ [])
unfolding flags nodes nodes_from
one_flags id counts targets [] h = absurd (omega arith)
one_flags id counts targets (x ∷ []) h = rw ((computed_reached (nodes (id ∷ []) counts targets) id).1 first)
one_flags id counts targets (x ∷ y ∷ l) h = absurd (omega arith)
