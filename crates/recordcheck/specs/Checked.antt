-- What is left of a record that was read when its value is not wanted.
use Rattle.std.specs.Prelude.{ℕ, Bool, true, false, List, eqb, leb, Err, None, Ok, Option, Result, Some}
use Rattle.wire.specs.Pick.{pick, both}
use Rattle.record.specs.Frame.{length_at, kind_at, whole_at, next_at}
use Rattle.record.specs.Payload.{kind_of}
use Rattle.record.specs.declared.Fault.TheVariants.{Cut, NotDue, Broken}
use Rattle.ir.specs.declared.Instruction.{Instruction}
use Rattle.ir.specs.declared.Terminator.{Terminator}
use Rattle.record.specs.declared.Fault.{Fault}
use Rattle.record.specs.declared.Record.{Record}

-- the payload is an instruction's
unfoldable pub is_instruction : Option Instruction → Bool
is_instruction (Some i) = true
is_instruction None = false

-- the payload is a terminator's
unfoldable pub is_terminator : Option Terminator → Bool
is_terminator (Some t) = true
is_terminator None = false

-- the kind of the record that is due and the byte after it, or the refusal
unfoldable pub checked_of : Result (Record × ℕ) Fault → Result (ℕ × ℕ) Fault
checked_of (Ok (r, next)) = Ok (kind_of r, next)
checked_of (Err f) = Err f

-- the same for a record of that kind whose payload has any bytes, from the least number to the most
unfoldable pub checked_by : List ℕ → ℕ → ℕ → ℕ → ℕ → Result (ℕ × ℕ) Fault
checked_by b at kind least most =
    pick (whole_at b at)
    (pick (eqb (kind_at b at) kind) (pick (both (leb least (length_at b at)) (leb (length_at b at) most)) (Ok (kind, next_at b at)) (Err (Broken at))) (Err (NotDue at)))
    (Err (Cut at))
