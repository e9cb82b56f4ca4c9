-- How many slots and relocations operations take: plain instructions, and one list after another.
use mathlib.Core.Path.{◌≡◌, refl, ap}
use mathlib.Core.List.{List, [], ◌∷◌, ◌++◌}
use Prim.Native.Nat.{suc, ◌+◌}
use native.Mathlib.Omega.{arith}
use lib.ListN.{length}
use Rattle.insn.specs.declared.Insn.{Insn}
use Rattle.lower.specs.Op.{Op, plain, map, ja, jne, slots_of}
use Rattle.lower.specs.Held.{map_in}
use Rattle.layout.specs.Inner.{plain_ops, maps_of}
use Rattle.std.specs.Prelude.{None}

pub plain_slots : (is : List Insn) → slots_of (plain_ops is) ≡ length is
unfolding slots_of plain_ops
plain_slots [] = refl
plain_slots (i ∷ is) = ap suc (plain_slots is)

pub plain_maps : (is : List Insn) → maps_of (plain_ops is) ≡ 0
unfolding maps_of plain_ops
plain_maps [] = refl
plain_maps (i ∷ is) = plain_maps is

pub plain_map : (is : List Insn) → map_in (plain_ops is) ≡ None
unfolding map_in plain_ops
plain_map [] = refl
plain_map (i ∷ is) = plain_map is

pub maps_append : (a b : List Op) → maps_of (a ++ b) ≡ maps_of a + maps_of b
unfolding maps_of
maps_append [] b = omega arith
maps_append (plain i ∷ a) b = maps_append a b
maps_append (map m ∷ a) b = let h = maps_append a b in omega arith
maps_append (ja to ∷ a) b = maps_append a b
maps_append (jne to ∷ a) b = maps_append a b
