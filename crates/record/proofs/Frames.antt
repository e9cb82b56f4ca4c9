-- A record that lies whole in the bytes ends inside them.
use mathlib.Core.Path.{◌≡◌}
use mathlib.Core.Bool.{true, false}
use Prim.Native.Nat.{ℕ, ◌+◌, ◌≤◌}
use native.Mathlib.Omega.{arith}
use lib.Dec.{leb}
use Rattle.std.proofs.lemmas.Bool.Decides.{nat_tests}
use Rattle.wire.specs.Pick.{pick}

-- a record of len bytes at a byte of size bytes
pub ends_inside : (size at len : ℕ) → pick (leb (at + 4) size) (leb (at + 4 + len) size) false ≡ true → at + 4 + len ≤ size
ends_inside size at len e = grind (arith, nat_tests)
