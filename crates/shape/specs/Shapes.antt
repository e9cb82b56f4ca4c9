-- The shape of a whole code: 30, then the lowest slot first and the lowest number, then 37.
use Rattle.std.specs.Prelude.{ℕ, zero, suc, ◌%◌, Bool, List, eqb, leb, ltb, length, Err, Ok, Result, ⊤}
use Rattle.wire.specs.Pick.{pick, both}
use Rattle.shape.specs.Code.{slots, start}
use Rattle.shape.specs.Shape.{shape_at}
use Rattle.shape.specs.Relocations.{relocations}
use Rattle.shape.specs.declared.Shape.{Shape}
use Rattle.shape.specs.declared.Shape.TheVariants as S
use Rattle.shape.specs.declared.Shapes.{Shapes}
use Rattle.shape.specs.declared.Shapes.TheVariants as Ss

unfoldable pub or_else : ℕ → Result ⊤ Shape → Result ⊤ Shapes → Result ⊤ Shapes
or_else s (Ok _) rest = rest
or_else s (Err shape) rest = Err (Ss.Faulty s shape)

-- the first fault of the n slots from s on
unfoldable pub shapes_from : List ℕ → ℕ → ℕ → Result ⊤ Shapes
shapes_from b s zero = Ok tt
shapes_from b s (suc n) = pick (start b s) (or_else s (shape_at b s) (shapes_from b (suc s) n)) (shapes_from b (suc s) n)

unfoldable pub shapes : List ℕ → Result ⊤ Shapes
shapes b = shapes_from b 0 (slots b)

-- 30: length 0, not a multiple of 8, or over 1,048,576
unfoldable pub length_ok : List ℕ → Bool
length_ok b = both (ltb 0 (length b)) (both (eqb (length b % 8) 0) (leb (length b) 1048576))

-- then rule 37
unfoldable pub with_relocations : Result ⊤ ℕ → Result ⊤ Shapes
with_relocations (Ok _) = Ok tt
with_relocations (Err k) = Err (Ss.Relocation k)

unfoldable pub and_relocations : List ℕ → List ℕ → Result ⊤ Shapes → Result ⊤ Shapes
and_relocations b l (Ok _) = with_relocations (relocations b l)
and_relocations b l (Err fault) = Err fault

unfoldable pub judged : List ℕ → List ℕ → Result ⊤ Shapes
judged b l = pick (length_ok b) (and_relocations b l (shapes b)) (Err Ss.BadLength)
