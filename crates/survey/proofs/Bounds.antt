-- The blocks of a unit: their records are those that were read, and there are at most 1,024.
use mathlib.Core.Path.{◌≡◌, refl}
use mathlib.Core.List.{List}
use Prim.Native.Nat.{ℕ, ◌≤◌}
use native.Mathlib.Omega.{arith}
use lib.ListN.{length}
use Rattle.unitfile.specs.Records.{records, at_block, records_from}
use Rattle.unitfile.specs.Unit.{parse, read_unit}
use Rattle.unitfile.specs.declared.Found.{Found}
use Rattle.unitfile.proofs.Blocks.{flat}
use Rattle.unitfile.proofs.Units.{unit_of}
use Rattle.unitfile.proofs.Whole.{refused_whole}
use Rattle.survey.specs.Surveyed.{blocks_of}
use Rattle.record.specs.declared.Fault.{Fault}
use Rattle.std.specs.Prelude.{Err, Ok, Result}

-- a unit that was read whole
module _ (b : List ℕ) (found : Found) (e : read_unit b ≡ Ok found) where
  -- its blocks' records are those that were read
  pub blocks_flat : records_from b found.maps (at_block found.body found.blocks) ≡ records (flat (blocks_of (parse b)))
  unfolding blocks_of
  blocks_flat = let u = unit_of b found e in rw u.parsed_as u.body

  pub blocks_count : length (blocks_of (parse b)) ≡ found.blocks
  unfolding blocks_of
  blocks_count = let u = unit_of b found e in rw u.parsed_as u.blocks

module _ (b : List ℕ) where
  few_by : (x : Result Found Fault) → read_unit b ≡ x → length (blocks_of (parse b)) ≤ 1024
  unfolding blocks_of
  few_by (Ok found) e = omega (arith, blocks_count b found e, (unit_of b found e).few_blocks)
  few_by (Err f) e = rw (refused_whole b f e) (omega arith)

  pub few_blocks : length (blocks_of (parse b)) ≤ 1024
  few_blocks = few_by (read_unit b) refl
