-- What a code's length says of its slots.
use mathlib.Core.Path.{◌≡◌}
use mathlib.Core.Bool.{true}
use mathlib.Core.List.{List}
use Prim.Native.Nat.{ℕ, ◌%◌, ◌<◌, ◌≤◌}
use native.Mathlib.Omega.{arith}
use lib.ListN.{length}
use borrow.Author.Tests.{ltb-true, eqb-true, leb-true}
use Rattle.shape.specs.Code.{slots}
use Rattle.shape.specs.Shapes.{length_ok}
use Rattle.shape.proofs.Tests.{three_true}

-- 1 to 131,072 slots of 8 bytes
pub length_parts : (b : List ℕ) → length_ok b ≡ true → (0 < length b) × (length b % 8 ≡ 0) × (length b ≤ 1048576)
unfolding length_ok
length_parts b e = let p = three_true _ _ _ e in (ltb-true _ _ p.0, eqb-true _ _ p.1, leb-true _ _ p.2)

pub length_slots : (b : List ℕ) → length_ok b ≡ true → slots b ≤ 131072
unfolding slots
length_slots b e = omega (arith, (length_parts b e).2)
