-- Guesses change nothing: where the variables ascend, the frame and the indices by any table are those without one.
use mathlib.Core.Path.{◌≡◌, refl, sym, ap, ◌∙◌, fun_ext}
use mathlib.Core.Bool.{Bool, true, false}
use mathlib.Core.List.{List}
use Prim.Native.Nat.{ℕ, suc, ◌+◌, ◌%◌, ◌<◌, ◌≤◌}
use native.Mathlib.Omega.{arith}
use borrow.Author.Tests.{eq-eqb, ne_eqb, lt-ltb, le-ltb, ltb-true, eqb-true}
use lib.Dec.{eqb, ltb}
use lib.ListN.{length, drop, get_or, set, drop_of_length-le}
use lib.Seq.{drop-cons}
use Rattle.wire.specs.Pick.{pick, both}
use Rattle.frame.specs.Cell.{offset_of, cell_at, cell_from, frame_of}
use Rattle.frame.specs.Hint.{index_from, guess, stands, index_by, frame_by, hints_from}
use Rattle.frame.proofs.Search.{cell_of_index, Stands, found_stands}
use Rattle.frame.specs.Variables.{Sorted}
use Rattle.frame.proofs.Sorted.{index_there}
use Rattle.std.specs.Prelude.{Option, Some, ℤ}

-- what a guess that is verified says
stands_means : (vs : List ℕ) (i v : ℕ) → stands vs i v ≡ true → Stands vs i v
unfolding stands
stands_means vs i v = go (ltb i (length vs)) refl
  where
    go : (t : Bool) → ltb i (length vs) ≡ t → both t (eqb v (get_or vs i 0)) ≡ true → Stands vs i v
    go true p q = record { within = ltb-true i (length vs) p; holds = eqb-true v (get_or vs i 0) q }
    go false p q = let z : ◌≡◌ {A = ℕ} 0 1 = cc in absurd (omega arith)

-- ---- the guess g by the code's tests

module _ (vs hs : List ℕ) (v : ℕ) {g : ℕ} (is : g ≡ guess hs v) where
  pub guessed : g < length vs → v ≡ get_or vs g 0 → g ≡ index_by vs hs v
  unfolding index_by stands
  guessed h e = rw (← is, lt-ltb g (length vs) h, eq-eqb v (get_or vs g 0) e)

  pub not_there : g < length vs → (v ≡ get_or vs g 0 → ⊥) → index_from 0 vs v ≡ index_by vs hs v
  unfolding index_by stands
  not_there h n = rw (← is, lt-ltb g (length vs) h, ne_eqb v (get_or vs g 0) n)

  pub past_end : length vs ≤ g → index_from 0 vs v ≡ index_by vs hs v
  unfolding index_by stands
  past_end h = rw (← is, le-ltb g (length vs) h)

module _ (vs hs : List ℕ) (v : ℕ) where
  -- the cell is that of the index
  pub guessed_cell : cell_at (length vs) (index_by vs hs v) ≡ (frame_by vs hs).cell v
  unfolding frame_by index_by cell_at
  guessed_cell = go (stands vs (guess hs v) v) refl
    where
      go : (t : Bool) → stands vs (guess hs v) v ≡ t → cell_at (length vs) (pick t (guess hs v) (index_from 0 vs v)) ≡ pick t (Some (offset_of (guess hs v))) (cell_from 0 vs v)
      go true e = rw (lt-ltb (guess hs v) (length vs) (stands_means vs (guess hs v) v e).within)
      go false e = sym (cell_of_index vs v)

  -- what stands at an index that was found
  pub index_stands : index_by vs hs v < length vs → Stands vs (index_by vs hs v) v
  unfolding index_by
  index_stands = go (stands vs (guess hs v) v) refl
    where
      go : (t : Bool) → stands vs (guess hs v) v ≡ t → pick t (guess hs v) (index_from 0 vs v) < length vs → Stands vs (pick t (guess hs v) (index_from 0 vs v)) v
      go true e h = stands_means vs (guess hs v) v e
      go false e h = found_stands vs v h

-- ---- ascending variables

module _ (vs hs : List ℕ) (sorted : Sorted vs) where
  index_same : (v : ℕ) → index_by vs hs v ≡ index_from 0 vs v
  unfolding index_by
  index_same v = go (stands vs (guess hs v) v) refl
    where
      go : (t : Bool) → stands vs (guess hs v) v ≡ t → pick t (guess hs v) (index_from 0 vs v) ≡ index_from 0 vs v
      go true e = let s = stands_means vs (guess hs v) v e in sym (index_there vs sorted (guess hs v) v s.within s.holds)
      go false e = refl

  pub index_by_lem : index_by vs hs ≡ index_from 0 vs
  index_by_lem = fun_ext index_same

  cell_same : (v : ℕ) → (frame_by vs hs).cell v ≡ cell_from 0 vs v
  cell_same v = sym (guessed_cell vs hs v) ∙ ap (cell_at (length vs)) (index_same v) ∙ sym (cell_of_index vs v)

  pub frame_by_lem : frame_by vs hs ≡ frame_of vs
  unfolding frame_by frame_of
  frame_by_lem = ap (λ (c : ℕ → Option ℤ). record { cell = c; scratch = λ (j : ℕ). offset_of (length vs + j % 8) }) (fun_ext cell_same)

-- ---- the table, variable by variable

module _ (vs : List ℕ) (i : ℕ) (hs : List ℕ) where
  pub put : i < length vs → hints_from i (drop i vs) hs ≡ hints_from (suc i) (drop (suc i) vs) (set hs (get_or vs i 0 % 256) (i % 256))
  unfolding hints_from
  put h = rw (drop-cons vs i 0 h)

  pub all_put : length vs ≤ i → hints_from i (drop i vs) hs ≡ hs
  unfolding hints_from
  all_put h = rw (drop_of_length-le vs {i = i} h)
