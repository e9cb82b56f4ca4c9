-- What the calls on code answer.
use Rattle.std.specs.Prelude.{ℕ, ◌≡◌, List, Err, Ok, Result, ⊤}
use Rattle.screen.specs.Verdict.{refusal_of, Screened}
use Rattle.shurtenbo.specs.Answer.{numbers_of, done_with}
use Rattle.screen.specs.declared.Fault.{Fault}

unfoldable pub verdict_numbers : Result ⊤ Fault → List ℕ
verdict_numbers (Ok _) = done_with 0 0
verdict_numbers (Err f) = numbers_of (refusal_of f)

-- the code b and the relocations l: the table t becomes u, and the answer is the verdict's numbers
pub record Screen (b l t u numbers : List ℕ) : Type 0 where
  pub verdict : Result ⊤ Fault
  pub screened : Screened b l t verdict u
  pub told : numbers ≡ verdict_numbers verdict
