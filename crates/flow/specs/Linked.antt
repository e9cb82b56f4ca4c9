-- What the flow of a unit's blocks is told in: per block whether it is emitted, and the numbers of the blocks that its targets mean.
use Rattle.std.specs.Prelude.{ℕ, zero, suc, ◌+◌, ◌*◌, Bool, List, [], ◌∷◌, eqb, leb, length, take, get_or}
use Rattle.std.proofs.lemmas.List.Edits.{sets}
use Rattle.wire.specs.Pick.{pick, both}
use Rattle.flow.specs.Node.{Node}
use Rattle.flow.specs.Computed.{is_reached}

-- block i of the lent lists: its id; its targets, at most two, stand at 2i and 2i + 1
unfoldable pub targets_at : ℕ → ℕ → List ℕ → List ℕ
targets_at zero i targets = []
targets_at (suc zero) i targets = get_or targets (2 * i) 0 ∷ []
targets_at (suc (suc k)) i targets = get_or targets (2 * i) 0 ∷ get_or targets (2 * i + 1) 0 ∷ []

unfoldable pub nodes_from : ℕ → List ℕ → List ℕ → List ℕ → List Node
nodes_from i [] counts targets = []
nodes_from i (id ∷ ids) counts targets =
    record { id = id; targets = targets_at (get_or counts i 0) i targets } ∷ nodes_from (suc i) ids counts targets

unfoldable pub nodes : List ℕ → List ℕ → List ℕ → List Node
nodes ids counts targets = nodes_from 0 ids counts targets

-- the number of the last block with an id, from block i on; 1,024 for none
unfoldable pub number_from : ℕ → List ℕ → ℕ → ℕ
number_from i [] id = 1024
number_from i (x ∷ xs) id =
    pick (eqb (number_from (suc i) xs id) 1024) (pick (eqb x id) i 1024) (number_from (suc i) xs id)

unfoldable pub numbers : List ℕ → List ℕ → List ℕ
numbers ids [] = []
numbers ids (t ∷ ts) = number_from 0 ids t ∷ numbers ids ts

-- 1 for each block whose id is reached: it is emitted
unfoldable pub flags : List Node → List ℕ → List ℕ
flags ns [] = []
flags ns (id ∷ ids) = pick (is_reached ns id) 1 0 ∷ flags ns ids

-- the lists afterwards, for the n blocks at their front: targets as numbers, and flags
unfoldable pub linked_targets : ℕ → List ℕ → List ℕ → List ℕ
linked_targets n ids targets = sets targets 0 (numbers (take n ids) (take (2 * n) targets))

unfoldable pub linked_flags : ℕ → List ℕ → List ℕ → List ℕ → List ℕ → List ℕ
linked_flags n ids counts targets emitted = sets emitted 0 (flags (nodes (take n ids) counts targets) (take n ids))

-- there are at most 1,024 blocks, and lists of these lengths hold them
unfoldable pub room_for : ℕ → ℕ → ℕ → ℕ → ℕ → Bool
room_for n ids counts targets emitted = both (leb n 1024) (both (leb n ids) (both (leb n counts) (both (leb (2 * n) targets) (leb n emitted))))

-- the lists hold the blocks; else nothing is done
unfoldable pub room : ℕ → List ℕ → List ℕ → List ℕ → List ℕ → Bool
room n ids counts targets emitted = room_for n (length ids) (length counts) (length targets) (length emitted)
