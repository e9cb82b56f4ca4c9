-- One pair of the relocations.
use Rattle.std.specs.Prelude.{ℕ, suc, List, eqb, leb, length, get_or, Err, Ok, Result, ⊤}
use Rattle.wire.specs.Pick.{pick}
use Rattle.wire.specs.Number.{bytes_before}

-- the pair at k of the list is that of the wide instruction at slot s, or the first index where it is not
unfoldable pub pair_at : List ℕ → ℕ → ℕ → Result ⊤ ℕ
pair_at l k s =
    pick (leb (length l) k) (Err k) (pick (eqb (get_or l k 0) (bytes_before s)) (pick (leb (length l) (suc k)) (Err (suc k)) (Ok tt)) (Err k))
