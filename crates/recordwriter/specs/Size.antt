-- What the record writer decides before it writes: a record's payload length, if its value keeps the rules.
use Rattle.std.specs.Prelude.{ℕ, List, length, None, Option, Some}
use Rattle.wire.specs.Pick.{pick}
use Rattle.record.specs.declared.Record.{Record}
use Rattle.recordwriter.specs.Bytes.{payload_bytes}
use Rattle.recordwriter.specs.Written.{valid}

unfoldable pub size_of : ℕ → List ℕ → Record → Option ℕ
size_of maps names r = pick (valid maps names r) (Some (length (payload_bytes names r))) None
