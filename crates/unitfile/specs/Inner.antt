-- What the crate's private functions answer, between the records and the unit. No public promise names these.
use Rattle.std.specs.Prelude.{ℕ, List, Err, Ok, Result}
use Rattle.opening.specs.Names.{Opened, opened, shut}
use Rattle.unitfile.specs.declared.Found.{Found}
use Rattle.unitfile.specs.Records.{Records, at_block, records_from}
use Rattle.unitfile.specs.Records as rs
use Rattle.record.specs.declared.Fault.{Fault}

-- what is found where the records of the blocks are read
unfoldable pub found_with : Found → Records → Result Found Fault
found_with found (rs.records l) = Ok found
found_with found (rs.refused f) = Err f

-- what is found from the end of a block on, with so many blocks due after it
unfoldable pub on_end : Found → List ℕ → ℕ → ℕ → Result ℕ Fault → Result Found Fault
on_end found b maps blocks (Ok next) = found_with found (records_from b maps (at_block next blocks))
on_end found b maps blocks (Err f) = Err f

-- what is found from the blocks on
unfoldable pub found_in : List ℕ → Opened → Result Found Fault
found_in b (opened h names at) = found_with (record { maps = h.maps; blocks = h.blocks; body = at }) (records_from b h.maps (at_block at h.blocks))
found_in b (shut f) = Err f
