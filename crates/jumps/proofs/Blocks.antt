-- The jumps checked by block numbers, one block after the other.
use mathlib.Core.Path.{◌≡◌}
use mathlib.Core.Bool.{true, false}
use mathlib.Core.List.{List}
use Prim.Native.Nat.{ℕ, suc, ◌+◌, ◌-◌, ◌<◌, ◌≤◌}
use native.Mathlib.Numerals.{add-one}
use native.Mathlib.Omega.{arith}
use Rattle.jumps.specs.Landed.{marked, or_next, landed_at, landed_from}
use Rattle.std.specs.Prelude.{Ok}

module _ (emitted edges endings counts named numbers : List ℕ) (n k : ℕ) where
  module _ (l : k < n) where
    pub on_emitted : marked emitted k ≡ true → landed_from emitted edges endings counts named numbers k (n - k) ≡ or_next (landed_at emitted edges endings counts named numbers k) (landed_from emitted edges endings counts named numbers (k + 1) (n - (k + 1)))
    unfolding landed_from
    on_emitted e =
        let z : n - k ≡ suc (n - (k + 1)) = omega arith in
        rw (z, e, add-one)

    pub on_silent : marked emitted k ≡ false → landed_from emitted edges endings counts named numbers k (n - k) ≡ landed_from emitted edges endings counts named numbers (k + 1) (n - (k + 1))
    unfolding landed_from
    on_silent e =
        let z : n - k ≡ suc (n - (k + 1)) = omega arith in
        rw (z, e, add-one)

  pub on_end_lem : n ≤ k → landed_from emitted edges endings counts named numbers k (n - k) ≡ Ok tt
  unfolding landed_from
  on_end_lem l = let z : n - k ≡ 0 = omega arith in rw z
