-- An instruction's payload: its size.
use mathlib.Core.Path.{◌≡◌}
use mathlib.Core.Bool.{true}
use mathlib.Core.List.{List}
use Prim.Native.Nat.{ℕ, ◌+◌, ◌*◌}
use native.Mathlib.Omega.{arith}
use Rattle.std.proofs.lemmas.Bool.Decides.{nat_tests}
use Rattle.wire.specs.Le.{byte_at}
use Rattle.record.specs.Instruction.{count_in, sized}

-- a payload of the right size is as long as its operand count asks
pub right_size : (b : List ℕ) (at len : ℕ) → sized b at len ≡ true → len ≡ 16 + 9 * byte_at b (at + 6)
unfolding sized count_in
right_size b at len e = grind (arith, nat_tests)
