-- Code without a fault of shape, rule by rule: the length, each instruction, the relocations.
use Rattle.std.specs.Prelude.{ℕ, ◌<◌, ◌≡◌, true, List, Ok}
use Rattle.shape.specs.Code.{slots, start}
use Rattle.shape.specs.Shape.{shape_at}
use Rattle.shape.specs.Relocations.{relocations}
use Rattle.shape.specs.Shapes.{length_ok}
use Rattle.shape.specs.declared.Shape.TheVariants as S

-- the instruction at each start is fine
abbrev pub EachFine : List ℕ → Type 0
EachFine b = (s : ℕ) → s < slots b → start b s ≡ true → shape_at b s ≡ Ok tt

pub record Fine (b l : List ℕ) : Type 0 where
  pub length : length_ok b ≡ true
  pub each : EachFine b
  pub relocs : relocations b l ≡ Ok tt
