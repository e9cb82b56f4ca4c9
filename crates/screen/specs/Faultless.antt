-- Code without a fault.
use Rattle.std.specs.Prelude.{ℕ, ◌<◌, true, ◌≡◌, List, Ok}
use Rattle.shape.specs.Code.{slots}
use Rattle.shape.specs.Shapes.{length_ok, judged}
use Rattle.shape.specs.declared.Shapes.TheVariants as Ss
use Rattle.paths.specs.Way.{Clear, Passes}

-- no instruction reads a register that some path there lacks, and no path passes the last slot
abbrev pub NoPathFault : List ℕ → Type 0
NoPathFault b = ((s : ℕ) → s < slots b → Clear b s) × (Passes b → ⊥)

abbrev pub NoFault : List ℕ → List ℕ → Type 0
NoFault b l = (length_ok b ≡ true) × ((judged b l ≡ Ok tt) × NoPathFault b)
