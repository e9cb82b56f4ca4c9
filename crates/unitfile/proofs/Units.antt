-- What a unit that was read gives to those who read it again: the unit of the definitions, its records in a row, and its bounds.
use mathlib.Core.Path.{◌≡◌, refl, ap, ◌∙◌, sym}
use mathlib.Core.List.{List}
use Prim.Native.Nat.{ℕ, ◌≤◌}
use native.Mathlib.Omega.{arith}
use lib.ListN.{length}
use Rattle.record.specs.declared.Record.TheVariants as R
use Rattle.record.specs.declared.Due.TheVariants as Du
use Rattle.record.proofs.RecordLaws.{head_bounds, record_taken}
use Rattle.unitfile.specs.Records.{records, at_block, records_from}
use Rattle.unitfile.specs.Unit.{UnitIr, parsed, none, group, parse, read_unit}
use Rattle.unitfile.specs.declared.Found.{Found}
use Rattle.opening.proofs.Heads.{first_is}
use Rattle.opening.proofs.MapLaws.{names_within}
use Rattle.unitfile.proofs.Blocks.{flat, flat_group, group_count}
use Rattle.unitfile.proofs.Whole.{Whole, whole, names_all}
use Rattle.std.specs.Prelude.{Ok}

-- the unit is what the bytes are; its records from the first block on are its blocks written out; its counts are those that were found
pub record UnitOf (b : List ℕ) (found : Found) (u : UnitIr) : Type 0 where
  pub parsed_as : parse b ≡ parsed u
  pub body : records_from b found.maps (at_block found.body found.blocks) ≡ records (flat u.blocks)
  pub names : length u.names ≡ found.maps
  pub blocks : length u.blocks ≡ found.blocks
  pub few_blocks : found.blocks ≤ 1024
  pub within : found.body ≤ length b
  pub short : length b ≤ 262144

module _ (b : List ℕ) (found : Found) where
  unit_found : Whole b found → UnitIr
  unit_found w = record { names = w.names; blocks = group none w.list }

  found_unit : (w : Whole b found) → UnitOf b found (unit_found w)
  unfolding unit_found
  found_unit w =
      let f = first_is b w.opening w.first w.head in
      let t = record_taken b 0 Du.Head 0 (R.Head w.opening) w.first f.read in
      let bounds = head_bounds w.opening t.came in
      let maps = found.maps in
      let start = at_block found.body found.blocks in
      record {
        parsed_as = w.unit;
        body = w.body ∙ ap records (sym (flat_group b maps w.list start refl w.body));
        names = names_all b found w;
        blocks = group_count b maps w.list start refl w.body;
        few_blocks = omega (arith, bounds.blocks, w.blocks_are);
        within = names_within b maps _ w.first w.names found.body w.maps t.within;
        short = f.short;
      }

  pub unit : read_unit b ≡ Ok found → UnitIr
  unit e = unit_found (whole b found e)

  pub unit_of : (e : read_unit b ≡ Ok found) → UnitOf b found (unit e)
  unfolding unit
  unit_of e = found_unit (whole b found e)
