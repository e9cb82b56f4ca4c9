-- What a unit with no block becomes: slot 0 alone, whose path passes the last slot.
use Rattle.std.specs.Prelude.{ℕ, ◌≡◌, List, Err, Ok}
use Rattle.shape.specs.Code.{slots}
use Rattle.shape.specs.Shapes.{judged}
use Rattle.shape.specs.declared.Shapes.TheVariants as Ss
use Rattle.screen.specs.Verdict.{Judged}
use Rattle.screen.specs.declared.Fault.TheVariants.{PastEnd}

-- one slot, with no fault before the paths, and 39 at 1
pub record OnlyPastEnd (b l : List ℕ) : Type 0 where
  pub one : slots b ≡ 1
  pub before : judged b l ≡ Ok tt
  pub paths : Judged b (Err (PastEnd 1))
