-- A variable's index, searched for from the front, and its cell.
use mathlib.Core.Path.{◌≡◌, refl}
use mathlib.Core.Bool.{Bool, true, false, cond, not}
use Rattle.std.specs.List.{position_or_len}
use Rattle.std.proofs.lemmas.List.Sums.{position_or_len_is}
use mathlib.Core.List.{List, [], ◌∷◌}
use Prim.Native.Nat.{ℕ, zero, suc, ◌+◌, ◌<◌, ◌≤◌}
use native.Mathlib.Omega.{arith}
use borrow.Author.Tests.{eq-eqb, ne_eqb, lt-ltb, le-ltb, eqb-true}
use lib.Dec.{eqb}
use lib.ListN.{length, get_or}
use Rattle.wire.specs.Pick.{pick}
use Rattle.frame.specs.Cell.{offset_of, cell_at, cell_from}
use Rattle.frame.specs.Hint.{index_from}
use Rattle.std.specs.Prelude.{Some}

-- what `position` looks for
index_position : (v i : ℕ) (l : List ℕ) → index_from i l v ≡ i + position_or_len (λ x. eqb v x) l
unfolding index_from
index_position v i [] = omega arith
index_position v i (x ∷ l) = go (eqb v x) (index_position v (suc i) l)
  where
    go : (t : Bool) → index_from (suc i) l v ≡ suc i + position_or_len (λ x. eqb v x) l → pick t i (index_from (suc i) l v) ≡ i + cond (not t) (1 + position_or_len (λ x. eqb v x) l) 0
    go true e = omega arith
    go false e = omega arith

-- the first place of v
pub first_index : (v : ℕ) (l : List ℕ) (p : ℕ) → p ≤ length l → ((k : ℕ) → k < p → v ≡ get_or l k 0 → ⊥) → (p < length l → v ≡ get_or l p 0) → p ≡ index_from 0 l v
first_index v l p h f s =
    let first = position_or_len_is (λ x. eqb v x) l p 0 h (λ k b. ne_eqb v (get_or l k 0) (f k b)) (λ b. eq-eqb v (get_or l p 0) (s b)) in
    omega (arith, index_position v 0 l)

-- the cell is that of the index
cell_from_lem : (i : ℕ) (l : List ℕ) (v n : ℕ) → n ≡ i + length l → cell_from i l v ≡ cell_at n (index_from i l v)
unfolding cell_from cell_at index_from
cell_from_lem i [] v n e = rw (le-ltb i n (omega arith))
cell_from_lem i (x ∷ xs) v n e = go (eqb v x) (cell_from_lem (suc i) xs v n (omega arith))
  where
    go : (t : Bool) → cell_from (suc i) xs v ≡ cell_at n (index_from (suc i) xs v) → pick t (Some (offset_of i)) (cell_from (suc i) xs v) ≡ cell_at n (pick t i (index_from (suc i) xs v))
    go true q = rw (lt-ltb i n (omega arith))
    go false q = q

pub cell_of_index : (l : List ℕ) (v : ℕ) → cell_from 0 l v ≡ cell_at (length l) (index_from 0 l v)
cell_of_index l v = cell_from_lem 0 l v (length l) (omega arith)

-- ---- what stands at an index

pub record Stands (l : List ℕ) (i v : ℕ) : Type 0 where
  pub within : i < length l
  pub holds : v ≡ get_or l i 0

least : (i : ℕ) (l : List ℕ) (v : ℕ) → i ≤ index_from i l v
unfolding index_from
least i [] v = omega arith
least i (x ∷ xs) v = go (eqb v x) (least (suc i) xs v)
  where
    go : (t : Bool) → suc i ≤ index_from (suc i) xs v → i ≤ pick t i (index_from (suc i) xs v)
    go true h = omega arith
    go false h = omega arith

found_from : (i : ℕ) (l : List ℕ) (v g : ℕ) → index_from i l v ≡ i + g → g < length l → Stands l g v
unfolding index_from
found_from i [] v g e h = absurd (omega arith)
found_from i (x ∷ xs) v zero e h = go (eqb v x) refl (least (suc i) xs v) e
  where
    go : (t : Bool) → eqb v x ≡ t → suc i ≤ index_from (suc i) xs v → pick t i (index_from (suc i) xs v) ≡ i + 0 → Stands (x ∷ xs) 0 v
    go true t n e = record { within = omega arith; holds = eqb-true v x t }
    go false t n e = absurd (omega arith)
found_from i (x ∷ xs) v (suc g) e h = go (eqb v x) (λ (q : index_from (suc i) xs v ≡ suc i + g). found_from (suc i) xs v g q (omega arith)) e
  where
    go : (t : Bool) → (index_from (suc i) xs v ≡ suc i + g → Stands xs g v) → pick t i (index_from (suc i) xs v) ≡ i + suc g → Stands (x ∷ xs) (suc g) v
    go true later e = absurd (omega arith)
    go false later e =
        let s = later (omega arith) in
        record { within = omega (arith, s.within); holds = s.holds }

pub found_stands : (l : List ℕ) (v : ℕ) → index_from 0 l v < length l → Stands l (index_from 0 l v) v
found_stands l v h = found_from 0 l v (index_from 0 l v) (omega arith) h
