-- How many arguments there are at most.
use mathlib.Core.Path.{◌≡◌, refl}
use mathlib.Core.Bool.{Bool, true, false, true≢false}
use mathlib.Core.List.{List, [], ◌∷◌}
use Prim.Native.Nat.{ℕ, ◌≤◌, max}
use native.Mathlib.Omega.{arith}
use lib.Dec.{eqb}
use lib.IntN.{ℤ, pos, negsuc, nat_abs}
use lib.Signed.{lt_z}
use borrow.Author.Tests.{ltb-true, ne_eqb}
use mir.Syntax.{Width}
use mir.Val.{SFits, to_z, of_z}
use mir.ValLaws.{to_z-of_z}
use Rattle.wire.specs.Pick.{pick}
use Rattle.insn.specs.Helper.{helpers, among, helper_of, arguments}
use Rattle.std.specs.Prelude.{None, Some}

-- no helper takes more than four arguments

most : List (ℕ × ℕ) → ℕ
most [] = 0
most (h ∷ hs) = max h.1 (most hs)

at_most : (hs : List (ℕ × ℕ)) (n : ℕ) → arguments (among hs n) ≤ most hs
unfolding among arguments most
at_most [] n = omega arith
at_most (h ∷ hs) n = go (eqb n h.0) (at_most hs n)
  where
    go : (x : Bool) → arguments (among hs n) ≤ most hs → arguments (pick x (Some h.1) (among hs n)) ≤ max h.1 (most hs)
    go true l = omega arith
    go false l = omega arith

pub at_most_four : (z : ℤ) → arguments (helper_of z) ≤ 4
unfolding helper_of helpers arguments most
at_most_four (pos n) = at_most helpers n
at_most_four (negsuc n) = omega arith
