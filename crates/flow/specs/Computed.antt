-- The reached ids computed: from the first block's id, as many sweeps over the blocks as there are blocks, each adding the targets of reached ids.
use Rattle.std.specs.Prelude.{ℕ, zero, suc, Bool, List, [], ◌∷◌, ◌++◌, length}
use Rattle.wire.specs.Pick.{pick}
use Rattle.flow.specs.Node.{Node, among, Found, found, none, last_with}

-- the ids with those of a list that are not among them
unfoldable pub join : List ℕ → List ℕ → List ℕ
join [] ids = ids
join (t ∷ ts) ids = pick (among t ids) (join ts ids) (join ts (ids ++ (t ∷ [])))

unfoldable pub targets_of : Found → List ℕ
targets_of (found n) = n.targets
targets_of none = []

-- the ids with the targets of each of some blocks whose id is among them, an id meaning the last block of `all` that has it
unfoldable pub sweep : List Node → List Node → List ℕ → List ℕ
sweep all [] ids = ids
sweep all (n ∷ ns) ids = sweep all ns (pick (among n.id ids) (join (targets_of (last_with all n.id)) ids) ids)

unfoldable pub sweeps : ℕ → List Node → List ℕ → List ℕ
sweeps zero ns ids = ids
sweeps (suc k) ns ids = sweeps k ns (sweep ns ns ids)

unfoldable pub first_id : List Node → List ℕ
first_id [] = []
first_id (n ∷ ns) = n.id ∷ []

unfoldable pub reached_ids : List Node → List ℕ
reached_ids ns = sweeps (length ns) ns (first_id ns)

unfoldable pub is_reached : List Node → ℕ → Bool
is_reached ns id = among id (reached_ids ns)
