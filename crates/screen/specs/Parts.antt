-- What the parts of the screen hand on.
use Rattle.std.specs.Prelude.{ℕ, ◌≤◌, ◌<◌, true, ◌≡◌, List, Err, Ok, Result, ⊤}
use Rattle.shape.specs.Code.{slots, at, form_at}
use Rattle.paths.specs.Registers.{reads}
use Rattle.paths.specs.declared.Ends.{Ends}
use Rattle.paths.specs.declared.Ends.TheVariants as E
use Rattle.screen.specs.declared.Fault.TheVariants.{PastEnd}
use Rattle.screen.specs.Verdict.{Before, fine, refused}
use Rattle.screen.specs.declared.Fault.{Fault}

-- a verdict that the paths may still change
unfoldable pub so_far : Result ⊤ Fault → Before
so_far (Ok _) = fine
so_far (Err f) = refused f

-- a code whose paths can be looked at with a table of so many entries: no instruction reads a register above 10
pub record Apt (b : List ℕ) (entries : ℕ) : Type 0 where
  pub some : 0 < slots b
  pub most : slots b ≤ 131072
  pub room : slots b ≤ entries
  pub low : (s r : ℕ) → s < slots b → reads (form_at b s) (at b s) r ≡ true → r < 11

-- the verdict where no path lacks a register that is read
unfoldable pub ended_of : Ends → ℕ → Result ⊤ Fault
ended_of E.Inside n = Ok tt
ended_of E.Past n = Err (PastEnd n)
ended_of E.NotRun n = Ok tt
