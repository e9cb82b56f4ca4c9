-- The table's entry is 2,047 where no path comes to a slot; below it some path does.
use mathlib.Core.Path.{◌≡◌}
use mathlib.Core.List.{List}
use Prim.Native.Nat.{ℕ, ◌<◌}
use native.Mathlib.Decide.{dec_lt}
use native.Mathlib.Omega.{arith}
use lib.ListN.{get_or}
use Rattle.wire.proofs.Bits.{clear_bit}
use Rattle.shape.specs.Code.{slots}
use Rattle.paths.specs.Way.{Reached}
use Rattle.paths.specs.Readable.{Readable, Filled}

-- a clear bit has a path that lacks the register
mask_reached : (b : List ℕ) (s x : ℕ) → Readable b s x → x < 2047 → Reached b s
mask_reached b s x X h =
    let c = clear_bit 11 x (omega arith) in
    let l = X.clear c.0 c.1 c.2 in
    (l.0, l.1.0)

module _ (b t u : List ℕ) (F : Filled b t u) (s : ℕ) (h : s < slots b) where
  pub below_reached : get_or u s 0 < 2047 → Reached b s
  below_reached = mask_reached b s (get_or u s 0) (F.front s h)

  pub no_path_full : (Reached b s → ⊥) → get_or u s 0 ≡ 2047
  no_path_full none = go (dec_lt (get_or u s 0) 2047)
    where
      go : Dec (get_or u s 0 < 2047) → get_or u s 0 ≡ 2047
      go (yes l) = absurd (none (below_reached l))
      go (no n) = omega (arith, (F.front s h).small)
