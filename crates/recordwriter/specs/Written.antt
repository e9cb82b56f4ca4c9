-- What the record writer answers, and what it leaves in the buffer: 5 before 6.
use Rattle.std.specs.Prelude.{ℕ, ◌+◌, Bool, true, List, leb, pos, length, Err, Ok, Result}
use Rattle.wire.specs.Pick.{pick, both}
use Rattle.wire.specs.Le.{store}
use Rattle.wire.specs.declared.refusal.Refusal.{Refusal}
use Rattle.opcode.specs.Opcode.{map_ok}
use Rattle.record.specs.Payload.{head_ok}
use Rattle.record.specs.declared.Record.{Record}
use Rattle.record.specs.declared.Record.TheVariants as R
use Rattle.recordwriter.specs.Bytes.{record_bytes}
use Rattle.recordwriter.specs.declared.Fault.{Fault}
use Rattle.recordwriter.specs.declared.Fault.TheVariants.{Broken, NoRoom}

-- the rules of a record's value: a valid head, a name of at most 64 bytes, a map that there is
unfoldable pub valid : ℕ → List ℕ → Record → Bool
valid maps names (R.Head h) = head_ok h
valid maps names (R.Map start len) = both (leb (start + len) (length names)) (leb len 64)
valid maps names (R.Block id) = true
valid maps names (R.Instruction i) = map_ok maps i.opcode
valid maps names (R.Terminator t) = true

-- the answer for a buffer of so many bytes
unfoldable pub written_answer : Record → List ℕ → ℕ → ℕ → Result ℕ Fault
written_answer r names maps room =
    pick (valid maps names r) (pick (leb (length (record_bytes names r)) room) (Ok (length (record_bytes names r))) (Err (NoRoom (length (record_bytes names r))))) (Err Broken)

-- the buffer afterwards: the record's bytes at its front, and a refused buffer as it was
unfoldable pub written_buffer : Record → List ℕ → ℕ → List ℕ → List ℕ
written_buffer r names maps buffer = pick (valid maps names r) (store buffer 0 (record_bytes names r)) buffer

-- 01's number, place and value of each fault
unfoldable pub refusal_of : Fault → Refusal
refusal_of Broken = record { number = 5; place = 0; value = pos 0 }
refusal_of (NoRoom needed) = record { number = 6; place = 0; value = pos needed }
