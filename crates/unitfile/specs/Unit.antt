-- A unit: its maps' names and its blocks.
use Rattle.std.specs.Prelude.{◌≡◌, ℕ, ◌+◌, List, [], ◌∷◌, ◌++◌, length, Err, Ok, Result}
use Rattle.ir.specs.declared.Instruction.{Instruction}
use Rattle.ir.specs.declared.Terminator.{Terminator}
use Rattle.record.specs.Frame.{next_at}
use Rattle.record.specs.declared.Record.{Record}
use Rattle.record.specs.declared.Record.TheVariants as R
use Rattle.record.specs.declared.Fault.{Fault}
use Rattle.unitfile.specs.declared.Found.{Found}
use Rattle.opening.specs.Names.{Opened, opened, shut, open_unit}
use Rattle.unitfile.specs.Records.{Placed, Records, at_block, records_from}
use Rattle.unitfile.specs.Records as rs

pub record PlacedInstruction : Type 0 where
  pub place : ℕ
  pub instruction : Instruction

-- a block: its id, its instructions and its terminator, each with the place of its record
pub record BasicBlock : Type 0 where
  pub place : ℕ
  pub id : ℕ
  pub instructions : List PlacedInstruction
  pub ending : ℕ
  pub terminator : Terminator

pub record UnitIr : Type 0 where
  pub names : List (List ℕ)
  pub blocks : List BasicBlock

-- a block that has begun: the place and the id of its block record, and the instructions since; or none
pub data Begun : Type 0 where
  none : Begun
  begun : ℕ → ℕ → List PlacedInstruction → Begun

-- what a record does to it: a block record begins a block, an instruction joins it, a terminator ends it
unfoldable pub on_value : Begun → ℕ → Record → (Begun → List BasicBlock) → List BasicBlock
on_value o at (R.Block id) go = go (begun at id [])
on_value none at (R.Instruction i) go = go none
on_value (begun place id is) at (R.Instruction i) go = go (begun place id (is ++ (record { place = at; instruction = i } ∷ [])))
on_value none at (R.Terminator t) go = go none
on_value (begun place id is) at (R.Terminator t) go =
    record { place = place; id = id; instructions = is; ending = at; terminator = t } ∷ go none
on_value o at (R.Head h) go = go o
on_value o at (R.Map start len) go = go o

-- records to blocks
unfoldable pub group : Begun → List Placed → List BasicBlock
group o [] = []
group o (p ∷ ps) = on_value o p.place p.value (λ n. group n ps)

-- bytes to a unit, or the refusal
pub data Parsed : Type 0 where
  parsed : UnitIr → Parsed
  refused : Fault → Parsed

unfoldable pub with_records : List (List ℕ) → Records → Parsed
with_records names (rs.records l) = parsed (record { names = names; blocks = group none l })
with_records names (rs.refused f) = refused f

unfoldable pub on_opened : List ℕ → Opened → Parsed
on_opened b (opened h names at) = with_records names (records_from b h.maps (at_block at h.blocks))
on_opened b (shut f) = refused f

unfoldable pub parse : List ℕ → Parsed
parse b = on_opened b (open_unit b)

-- the bytes of the records of maps with these names
unfoldable pub map_bytes : List (List ℕ) → ℕ
map_bytes [] = 0
map_bytes (n ∷ ns) = 4 + length n + map_bytes ns

-- what the whole-file reader answers: how many maps and blocks there are, and where the blocks begin, after the head and the maps
unfoldable pub found_of : List ℕ → Parsed → Result Found Fault
found_of b (parsed u) = Ok (record { maps = length u.names; blocks = length u.blocks; body = next_at b 0 + map_bytes u.names })
found_of b (refused f) = Err f

unfoldable pub read_unit : List ℕ → Result Found Fault
read_unit b = found_of b (parse b)

-- every byte string is refused by the reader and by the definition alike, or it is a unit, and the reader's counts are those of its names and blocks
pub data Decided (b : List ℕ) : Type 0 where
  refusal : (f : Fault) → read_unit b ≡ Err f → parse b ≡ refused f → Decided b
  whole_unit : (found : Found) (u : UnitIr) → read_unit b ≡ Ok found → parse b ≡ parsed u → length u.names ≡ found.maps → length u.blocks ≡ found.blocks → Decided b
