-- Rule 37: the relocations are exactly the wide instructions' offsets ascending, each with a map number (any u32).
use Rattle.std.specs.Prelude.{ℕ, zero, suc, ◌+◌, List, [], ◌∷◌, eqb, Err, Ok, Result, ⊤}
use Rattle.wire.specs.Pick.{pick}
use Rattle.wire.specs.Number.{bytes_before}
use Rattle.shape.specs.Code.{slots, start, wide}

-- the byte offsets of the wide instructions among the n slots from s on
unfoldable pub wide_from : List ℕ → ℕ → ℕ → List ℕ
wide_from b s zero = []
wide_from b s (suc n) = pick (start b s) (pick (wide b s) (bytes_before s ∷ wide_from b (suc s) n) (wide_from b (suc s) n)) (wide_from b (suc s) n)

unfoldable pub wide_offsets : List ℕ → List ℕ
wide_offsets b = wide_from b 0 (slots b)

-- the first index where the list differs from these offsets, each with a map number, or ends too soon; k is the first's index
unfoldable pub differs : ℕ → List ℕ → List ℕ → Result ⊤ ℕ
differs k [] [] = Ok tt
differs k [] (x ∷ l) = Err k
differs k (o ∷ os) [] = Err k
differs k (o ∷ os) (x ∷ []) = pick (eqb x o) (Err (suc k)) (Err k)
differs k (o ∷ os) (x ∷ map ∷ l) = pick (eqb x o) (differs (k + 2) os l) (Err k)

unfoldable pub relocations : List ℕ → List ℕ → Result ⊤ ℕ
relocations b l = differs 0 (wide_offsets b) l
