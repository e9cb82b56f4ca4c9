-- A record's bytes from its value.
use Rattle.std.specs.Prelude.{ℕ, List, ◌++◌, length, take, drop}
use Rattle.std.specs.Int.{w16, w32}
use Rattle.wire.specs.Le.{unsigned_bytes}
use Rattle.ir.specs.Operands.{list_of}
use Rattle.record.specs.Payload.{kind_of}
use Rattle.record.specs.declared.Record.{Record}
use Rattle.record.specs.declared.Record.TheVariants as R
use Rattle.opcode.specs.Opcode.{fields_of}
use Rattle.payloadwriter.specs.Payloads.{instruction_bytes, terminator_bytes}

-- a map's name lies in the bytes `names`, where its record says
unfoldable pub payload_bytes : List ℕ → Record → List ℕ
payload_bytes names (R.Head h) = unsigned_bytes w16 h.edition ++ unsigned_bytes w16 h.maps ++ unsigned_bytes w32 h.blocks
payload_bytes names (R.Map start len) = take len (drop start names)
payload_bytes names (R.Block id) = unsigned_bytes w32 id
payload_bytes names (R.Instruction i) = instruction_bytes i.result (fields_of i.opcode) (list_of i.operands)
payload_bytes names (R.Terminator t) = terminator_bytes t

-- a u16 payload length, a u16 kind, then the payload
unfoldable pub record_bytes : List ℕ → Record → List ℕ
record_bytes names r =
    unsigned_bytes w16 (length (payload_bytes names r)) ++ unsigned_bytes w16 (kind_of r) ++ payload_bytes names r
