-- What the crate's own functions answer, while the pass goes on.
use Rattle.std.specs.Prelude.{ℕ, ◌+◌, ◌≤◌, ◌≡◌, List, [], ◌++◌, eqb, ltb, length, take, drop, Err, Ok, Result}
use Rattle.std.specs.Int.{w32}
use Rattle.wire.specs.Pick.{pick}
use Rattle.wire.specs.Le.{byte_at, unsigned_at}
use Rattle.ir.specs.declared.Operand.TheVariants.{Var}
use Rattle.operand.specs.Operand.{operand_in, operands_in}
use Rattle.frame.specs.Variables.{Sorted}
use Rattle.record.specs.Frame.{kind_at, next_at}
use Rattle.unitfile.specs.declared.Found.{Found}
use Rattle.survey.specs.Occurrences.{Occurrence, of_operand, of_operands}
use Rattle.survey.specs.Collected.{Collected, all, too_many, collect}
use Rattle.survey.specs.declared.occurrences.Tally.{Tally}
use Rattle.survey.specs.declared.pass.Going.{Going}
use Rattle.survey.specs.declared.Fault.{Fault}
use Rattle.survey.specs.declared.Fault.TheVariants.{TooMany}

-- how many places of the lent list are used
unfoldable pub used : Tally → ℕ
used t = pick (ltb 56 t.count) 56 t.count

-- what was collected so far
unfoldable pub gathered : Tally → List ℕ → Collected
gathered t l = pick (ltb 56 t.count) (too_many t.place l) (all (take t.count l))

-- and then the variables that come
unfoldable pub further : Collected → List Occurrence → Collected
further (all variables) os = collect variables os
further (too_many place variables) os = too_many place variables

pub record Holds (t : Tally) (l : List ℕ) : Type 0 where
  pub size : length l ≡ 56
  pub most : t.count ≤ 57
  pub sorted : Sorted (take (used t) l)

-- the variables that os name are put among those of the tally t and the list l, the rest of which is as it was
pub record Takes (t : Tally) (l : List ℕ) (os : List Occurrence) (r : Tally) (m : List ℕ) : Type 0 where
  pub holds : Holds r m
  pub more : used t ≤ used r
  pub gathers : gathered r m ≡ further (gathered t l) os
  pub rest : drop (used r) m ≡ drop (used r) l

unfoldable pub tallied : Found → Tally → Result (Found × ℕ) Fault
tallied found t = pick (ltb 56 t.count) (Err (TooMany t.place)) (Ok (found, t.count))

-- ---- what the bytes of an instruction, and of a terminator, name

unfoldable pub of_instruction_in : List ℕ → ℕ → List Occurrence
of_instruction_in b place = of_operand place (Var (unsigned_at w32 b (place + 4))) ++ of_operands place (operands_in b (place + 20) (byte_at b (place + 10)))

unfoldable pub of_terminator_in : List ℕ → ℕ → List Occurrence
of_terminator_in b place = pick (eqb (byte_at b (place + 4)) 1) [] (of_operand place (operand_in b (place + 5)))

-- ---- the instructions of a block

-- the instructions from a byte on name os, and the first record of another kind than 4 stands at the byte end
pub data Names (b : List ℕ) (end : ℕ) : ℕ → List Occurrence → Type 0 where
  done : (kind_at b end ≡ 4 → ⊥) → Names b end end []
  next : {at : ℕ} {os : List Occurrence} → kind_at b at ≡ 4 → Names b end (next_at b at) os → Names b end at (of_instruction_in b at ++ os)

-- what they name is put among the variables of the tally t and the list l, and g is where they end
pub record Over (b : List ℕ) (first : ℕ) (t : Tally) (l : List ℕ) (g : Going) (m : List ℕ) : Type 0 where
  pub takes : (end : ℕ) (os : List Occurrence) → Names b end first os → Takes t l os g.tally m
  pub ends : (end : ℕ) (os : List Occurrence) → Names b end first os → g.at ≡ end
