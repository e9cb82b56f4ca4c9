-- What the calls on one record answer, and what they leave in the fields and in the buffer.
use Rattle.std.specs.Prelude.{ℕ, List, eqb, Err, None, Ok, Option, Result, Some}
use Rattle.wire.specs.Pick.{pick}
use Rattle.record.specs.Record as reading
use Rattle.record.specs.declared.Due.{Due}
use Rattle.record.specs.declared.Due.TheVariants as Du
use Rattle.recordwriter.specs.Written.{written_answer, written_buffer}
use Rattle.recordwriter.specs.Written as writing
use Rattle.recordwriter.specs.declared.Fault.TheVariants as F
use Rattle.recordfields.specs.Fields.{fields_of}
use Rattle.shurtenbo.specs.Answer.{done_with, numbers_of}
use Rattle.record.specs.declared.Fault.{Fault as ReadFault}
use Rattle.record.specs.declared.Record.{Record}
use Rattle.recordwriter.specs.declared.Fault.{Fault}

-- 0 a head, 1 a map, 2 a block record; any other number, as 3, an instruction or a terminator
unfoldable pub due_of : ℕ → Due
due_of due = pick (eqb due 0) Du.Head (pick (eqb due 1) Du.Map (pick (eqb due 2) Du.Block Du.Inside))

-- the byte after the record
unfoldable pub read_numbers : Result (Record × ℕ) ReadFault → List ℕ
read_numbers (Ok (r, next)) = done_with next 0
read_numbers (Err f) = numbers_of (reading.refusal_of f)

-- its value; a refusal leaves the fields as they were
unfoldable pub read_fields : Result (Record × ℕ) ReadFault → List ℕ → List ℕ
read_fields (Ok (r, next)) fields = fields_of r
read_fields (Err f) fields = fields

-- the bytes written
unfoldable pub written_numbers : Result ℕ Fault → List ℕ
written_numbers (Ok n) = done_with n 0
written_numbers (Err f) = numbers_of (writing.refusal_of f)

-- of the record that the fields mean; where they mean none, its rules are broken and the buffer stays as it was
unfoldable pub write_answer : Option Record → List ℕ → ℕ → ℕ → Result ℕ Fault
write_answer (Some r) names maps room = written_answer r names maps room
write_answer None names maps room = Err F.Broken

unfoldable pub write_buffer : Option Record → List ℕ → ℕ → List ℕ → List ℕ
write_buffer (Some r) names maps buffer = written_buffer r names maps buffer
write_buffer None names maps buffer = buffer
