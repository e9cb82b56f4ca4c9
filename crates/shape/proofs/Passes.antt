-- A pass over the starts: what a definition that goes over all slots says from a start on.
use mathlib.Core.Path.{◌≡◌, refl, sym, ap, ◌∙◌}
use mathlib.Core.Bool.{Bool, true, false}
use mathlib.Core.List.{List, [], ◌∷◌}
use Prim.Native.Nat.{ℕ, suc, ◌+◌, ◌-◌, ◌<◌, ◌≤◌}
use native.Mathlib.Decide.{dec_lt}
use native.Mathlib.Numerals.{add-one}
use native.Mathlib.Omega.{arith}
use Rattle.wire.specs.Pick.{pick}
use Rattle.wire.specs.Number.{bytes_before}
use Rattle.shape.specs.Code.{slots, wide, start}
use Rattle.shape.specs.Set.{after}
use Rattle.shape.specs.Shape.{shape_at}
use Rattle.shape.specs.Relocations.{wide_from}
use Rattle.shape.specs.Shapes.{or_else, shapes_from, shapes}
use Rattle.shape.specs.declared.Shape.{Shape}
use Rattle.shape.specs.declared.Shape.TheVariants as S
use Rattle.shape.specs.declared.Shapes.TheVariants as Ss
use Rattle.shape.proofs.Starts.{start_first, start_second, start_after}
use Rattle.std.specs.Prelude.{Ok, Result, ⊤}

-- F goes over the n slots from s on, with f at the starts
module _ {A : Type 0} (b : List ℕ) (z : A) (f : ℕ → A → A) (F : ℕ → ℕ → A) (none : (s : ℕ) → F s 0 ≡ z)
    (some : (s n : ℕ) → F s (suc n) ≡ pick (start b s) (f s (F (suc s) n)) (F (suc s) n)) where
  at_end : (n s : ℕ) → n ≤ s → F s (n - s) ≡ z
  at_end n s h = let e : n - s ≡ 0 = omega arith in rw e (none s)

  at_slot : (n s : ℕ) → s < n → F s (n - s) ≡ pick (start b s) (f s (F (suc s) (n - suc s))) (F (suc s) (n - suc s))
  at_slot n s h = let e : n - s ≡ suc (n - suc s) = omega arith in rw e (some s (n - suc s))

  -- a slot that is no start
  skipped : (n s : ℕ) → start b s ≡ false → F s (n - s) ≡ F (suc s) (n - suc s)
  skipped n s q = go (dec_lt s n)
    where
      go : Dec (s < n) → F s (n - s) ≡ F (suc s) (n - suc s)
      go (yes h) = at_slot n s h ∙ rw q
      go (no h) = at_end n s (omega arith) ∙ sym (at_end n (suc s) (omega arith))

  at_start_lem : (n s : ℕ) → s < n → start b s ≡ true → F s (n - s) ≡ f s (F (after b s) (n - after b s))
  unfolding after
  at_start_lem n s h q = at_slot n s h ∙ rw q (ap (f s) (go (wide b s) refl))
    where
      go : (t : Bool) → wide b s ≡ t → F (suc s) (n - suc s) ≡ F (pick t (s + 2) (s + 1)) (n - pick t (s + 2) (s + 1))
      go true e = let m : s + 2 ≡ suc (suc s) = omega arith in rw m (skipped n (suc s) (start_second b s q e))
      go false e = rw add-one

-- the shapes from the start s on decide
pub record Going (b : List ℕ) (s : ℕ) : Type 0 where
  pub here : start b s ≡ true
  pub rest : shapes_from b s (slots b - s) ≡ shapes b

pub going_all : (b : List ℕ) → Going b 0
unfolding shapes
going_all b = let e : slots b - 0 ≡ slots b = omega arith in record { here = start_first b; rest = rw e }

module _ (b : List ℕ) (s : ℕ) (G : Going b s) where
  pub going_fault : s < slots b → (f : Result ⊤ Shape) → shape_at b s ≡ f → or_else s f (shapes_from b (after b s) (slots b - after b s)) ≡ shapes b
  unfolding shapes_from
  going_fault h f e =
      rw (← e) (sym (at_start_lem b (Ok tt) (λ s r. or_else s (shape_at b s) r) (shapes_from b) (λ s. refl) (λ s n. refl) (slots b) s h G.here))
      ∙ G.rest

  pub going_on : s < slots b → shape_at b s ≡ Ok tt → Going b (after b s)
  unfolding or_else
  going_on h e = record { here = start_after b s G.here; rest = going_fault h (Ok tt) e }

  pub going_end : slots b ≤ s → Ok tt ≡ shapes b
  unfolding shapes_from
  going_end h = sym (at_end b (Ok tt) (λ s r. or_else s (shape_at b s) r) (shapes_from b) (λ s. refl) (λ s n. refl) (slots b) s h) ∙ G.rest

-- the wide instructions from a start on
module _ (b : List ℕ) (n s : ℕ) where
  pub wides_end : n ≤ s → wide_from b s (n - s) ≡ []
  unfolding wide_from
  wides_end = at_end b [] (λ s r. pick (wide b s) (bytes_before s ∷ r) r) (wide_from b) (λ s. refl) (λ s n. refl) n s

  pub wides_start : s < n → start b s ≡ true → wide_from b s (n - s) ≡ pick (wide b s) (bytes_before s ∷ wide_from b (after b s) (n - after b s)) (wide_from b (after b s) (n - after b s))
  unfolding wide_from
  wides_start = at_start_lem b [] (λ s r. pick (wide b s) (bytes_before s ∷ r) r) (wide_from b) (λ s. refl) (λ s n. refl) n s
