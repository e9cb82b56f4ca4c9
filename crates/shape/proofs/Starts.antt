-- Reading starts at slot 0 and steps 2 after a first byte 0x18, else 1: what `start` says of a slot.
use mathlib.Core.Path.{◌≡◌, refl}
use mathlib.Core.Bool.{Bool, true, false}
use mathlib.Core.List.{List}
use Prim.Native.Nat.{ℕ, suc, ◌+◌, ◌<◌}
use native.Mathlib.Numerals.{add-one}
use native.Mathlib.Omega.{arith}
use Rattle.wire.specs.Pick.{pick}
use Rattle.shape.specs.Code.{wide, start}
use Rattle.shape.specs.Set.{after}

pub start_first : (b : List ℕ) → start b 0 ≡ true
unfolding start
start_first b = refl

module _ (b : List ℕ) (s : ℕ) (h : start b s ≡ true) where
  -- after a start that is not wide comes a start
  pub start_narrow : wide b s ≡ false → start b (suc s) ≡ true
  unfolding start
  start_narrow e = simp (h, e)

  -- after a wide one a slot that is none, and then a start
  pub start_second : wide b s ≡ true → start b (suc s) ≡ false
  unfolding start
  start_second e = simp (h, e)

  pub start_wide : wide b s ≡ true → start b (suc (suc s)) ≡ true
  unfolding start
  start_wide e = simp (h, e)

  -- the next start
  pub start_after : start b (after b s) ≡ true
  unfolding after
  start_after = go (wide b s) refl
    where
      go : (t : Bool) → wide b s ≡ t → start b (pick t (s + 2) (s + 1)) ≡ true
      go true e = let q : s + 2 ≡ suc (suc s) = omega arith in rw q (start_wide e)
      go false e = rw add-one (start_narrow e)

  pub after_more : s < after b s
  unfolding after
  after_more = go (wide b s)
    where
      go : (t : Bool) → s < pick t (s + 2) (s + 1)
      go true = omega arith
      go false = omega arith

  -- no slot between
  pub start_between : (u : ℕ) → s < u → u < after b s → start b u ≡ false
  unfolding after
  start_between u l m = go (wide b s) refl m
    where
      go : (t : Bool) → wide b s ≡ t → u < pick t (s + 2) (s + 1) → start b u ≡ false
      go true e k = let q : u ≡ suc s = omega arith in rw q (start_second e)
      go false e k = absurd (omega arith)
