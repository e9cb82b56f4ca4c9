-- The cells of a frame lie in the frame.
use mathlib.Core.Path.{◌≡◌}
use mathlib.Core.Bool.{Bool, true, false}
use mathlib.Core.List.{List, [], ◌∷◌}
use Prim.Native.Nat.{ℕ, suc, ◌+◌, ◌*◌, ◌%◌}
use native.Mathlib.Omega.{arith}
use lib.Dec.{eqb}
use lib.IntN.{ℤ}
use lib.ListN.{length}
use Rattle.wire.specs.Pick.{pick}
use Rattle.frame.specs.Cell.{offset_of, cell_from, frame_of}
use Rattle.frame.specs.Apart.{InFrame}
use Rattle.ours.proofs.Instructions.{Cells}
use Rattle.std.specs.Prelude.{Some}

offset_in : (i : ℕ) → InFrame (offset_of i)
unfolding offset_of
offset_in i =
    let e : 8 * suc (i % 64) ≡ suc (8 * (i % 64) + 7) = omega arith in
    record { number = i % 64; below = omega arith; is = rw e }

cell_in : (i : ℕ) (vs : List ℕ) (v : ℕ) (z : ℤ) → cell_from i vs v ≡ Some z → InFrame z
unfolding cell_from
cell_in i [] v z e = let z : ◌≡◌ {A = ℕ} 0 1 = cc in absurd (omega arith)
cell_in i (x ∷ vs) v z e = go (eqb v x) e (cell_in (suc i) vs v z)
  where
    go : (t : Bool) → pick t (Some (offset_of i)) (cell_from (suc i) vs v) ≡ Some z → (cell_from (suc i) vs v ≡ Some z → InFrame z) → InFrame z
    go true e k = let q : offset_of i ≡ z = cc in rw q at (offset_in i)
    go false e k = k e

pub cells : (vs : List ℕ) → Cells (frame_of vs)
unfolding frame_of
cells vs = record { cell = λ v z e. cell_in 0 vs v z e; scratch = λ j. offset_in (length vs + j % 8) }
