-- What the calls on units answer.
use Rattle.std.specs.Prelude.{ℕ, List, length, Err, None, Ok, Option, Result, Some}
use Rattle.record.specs.Record.{refusal_of}
use Rattle.unitfile.specs.Unit.{Parsed, parsed, refused}
use Rattle.tracepoint.specs.Compile as tracepoint
use Rattle.shurtenbo.specs.Answer.{done_with, numbers_of, no_such_map}
use Rattle.record.specs.declared.Fault.{Fault as ReadFault}
use Rattle.tracepoint.specs.declared.Fault.{Fault}

-- how many maps and how many blocks a unit has
unfoldable pub unit_numbers : Parsed → List ℕ
unit_numbers (parsed u) = done_with (length u.names) (length u.blocks)
unit_numbers (refused f) = numbers_of (refusal_of f)

-- the place of a name's first byte in the unit, and its length
unfoldable pub place_numbers : Result (Option (ℕ × ℕ)) ReadFault → List ℕ
place_numbers (Ok (Some (start, len))) = done_with start len
place_numbers (Ok None) = no_such_map
place_numbers (Err f) = numbers_of (refusal_of f)

-- how many slots and how many relocations its code has
unfoldable pub compiled_numbers : Result (ℕ × ℕ) Fault → List ℕ
compiled_numbers (Ok (slots, relocs)) = done_with slots relocs
compiled_numbers (Err f) = numbers_of (tracepoint.refusal_of f)
