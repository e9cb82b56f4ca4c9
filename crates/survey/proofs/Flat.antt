-- The blocks have as many ids, and as many terminators' places, as they are.
use mathlib.Core.Path.{◌≡◌, refl, ap}
use mathlib.Core.List.{List, [], ◌∷◌}
use Prim.Native.Nat.{suc}
use lib.ListN.{length}
use Rattle.unitfile.specs.Unit.{BasicBlock}
use Rattle.survey.specs.Surveyed.{ids, endings}

pub ids_count : (bs : List BasicBlock) → length (ids bs) ≡ length bs
unfolding ids
ids_count [] = refl
ids_count (b ∷ bs) = ap suc (ids_count bs)

pub endings_count : (bs : List BasicBlock) → length (endings bs) ≡ length bs
unfolding endings
endings_count [] = refl
endings_count (b ∷ bs) = ap suc (endings_count bs)
