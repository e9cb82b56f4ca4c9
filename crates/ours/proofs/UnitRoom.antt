-- The code of a unit that was read has at most 131,072 slots: a record of n bytes becomes at most n/2 of them.
use mathlib.Core.Path.{◌≡◌, sym, ◌∙◌}
use mathlib.Core.Bool.{Bool}
use mathlib.Core.List.{List}
use Prim.Native.Nat.{ℕ, ◌≤◌}
use native.Mathlib.Omega.{arith}
use Rattle.unitfile.specs.Records.{at_block}
use Rattle.unitfile.specs.Unit.{UnitIr, parsed, parse, Decided, refusal, whole_unit}
use Rattle.unitfile.proofs.Blocks.{flat}
use Rattle.unitfile.proofs.Sizes.{sizes, sizes_all}
use Rattle.unitfile.proofs.Theorems.{decided}
use Rattle.unitfile.proofs.Units.{unit_of}
use Rattle.survey.specs.Surveyed.{blocks_of}
use Rattle.survey.proofs.Bounds.{blocks_flat}
use Rattle.lower.specs.Op.{Op, slots_of}
use Rattle.layout.specs.Emitted.{keep, emitted}
use Rattle.layout.specs.Layout.{laid, Context, unit_ops}
use Rattle.ours.proofs.Room.{sizes_keep, unit_slots}

unit_bytes : (b : List ℕ) (u : UnitIr) → parse b ≡ parsed u → sizes (flat u.blocks) ≤ 262144
unfolding blocks_of
unit_bytes b u e = go (decided b)
  where
    go : Decided b → sizes (flat u.blocks) ≤ 262144
    go (refusal f r p) = let q = sym p ∙ e in let z : ◌≡◌ {A = ℕ} 0 1 = cc in absurd (omega arith)
    go (whole_unit found v r p n m) =
        let all = rw e at (blocks_flat b found r) in
        omega (arith, sizes_all b found.maps (flat u.blocks) (at_block found.body found.blocks) all, (unit_of b found r).short)

-- the blocks that are reached, by whatever test
pub kept_slots : (b : List ℕ) (u : UnitIr) (reached : ℕ → Bool) (c : Context) (l : List Op) → parse b ≡ parsed u → unit_ops c (keep reached u.blocks) ≡ laid l → slots_of l ≤ 131072
kept_slots b u reached c l p e = unit_slots c (keep reached u.blocks) l e (omega (arith, sizes_keep reached u.blocks, unit_bytes b u p))

-- the emitted blocks of a unit that was read
pub emitted_slots : (b : List ℕ) (u : UnitIr) (c : Context) (l : List Op) → parse b ≡ parsed u → unit_ops c (emitted u.blocks) ≡ laid l → slots_of l ≤ 131072
unfolding emitted
emitted_slots b u c l = kept_slots b u _ c l
