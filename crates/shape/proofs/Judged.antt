-- Code that is judged Fine, exactly: its length is allowed, each of its instructions is fine, and its relocations are exact.
use mathlib.Core.Path.{◌≡◌, refl, sym, ◌∙◌}
use mathlib.Core.Bool.{Bool, true, false, true≢false}
use mathlib.Core.Logic.{◌↔◌}
use mathlib.Core.List.{List}
use Prim.Native.Nat.{ℕ, zero, suc, ◌+◌, ◌<◌, ◌≤◌}
use native.Mathlib.Decide.{ℕ_discrete}
use native.Mathlib.Omega.{arith}
use Rattle.wire.specs.Pick.{pick}
use Rattle.shape.specs.Code.{slots, start}
use Rattle.shape.specs.Shape.{shape_at}
use Rattle.shape.specs.Relocations.{relocations}
use Rattle.shape.specs.Shapes.{or_else, shapes_from, shapes, length_ok, with_relocations, and_relocations, judged}
use Rattle.shape.specs.Fine.{Fine}
use Rattle.shape.specs.declared.Shape.{Shape}
use Rattle.shape.specs.declared.Shape.TheVariants as S
use Rattle.shape.specs.declared.Shapes.{Shapes}
use Rattle.shape.specs.declared.Shapes.TheVariants as Ss
use Rattle.std.specs.Prelude.{Err, Ok, Result, ⊤}

never : {f : Shapes} → ◌≡◌ {A = Result ⊤ Shapes} (Err f) (Ok tt) → ⊥
never e = let z : ◌≡◌ {A = ℕ} 0 1 = cc in omega arith

or_fine : (s : ℕ) (f : Result ⊤ Shape) (rest : Result ⊤ Shapes) → or_else s f rest ≡ Ok tt → (f ≡ Ok tt) × (rest ≡ Ok tt)
unfolding or_else
or_fine s (Ok _) rest e = (refl, e)
or_fine s (Err f) rest e = absurd (never e)

-- ---- the slots from s on

module _ (b : List ℕ) where
  fine_each : (n s : ℕ) → shapes_from b s n ≡ Ok tt → (u : ℕ) → s ≤ u → u < s + n → start b u ≡ true → shape_at b u ≡ Ok tt
  unfolding shapes_from
  fine_each zero s e u l m h = absurd (omega arith)
  fine_each (suc n) s e u l m h = go (start b s) refl e (λ r p. fine_each n (suc s) r u (omega arith) (omega arith) h) (ℕ_discrete u s)
    where
      go : (t : Bool) → start b s ≡ t → pick t (or_else s (shape_at b s) (shapes_from b (suc s) n)) (shapes_from b (suc s) n) ≡ Ok tt
          → (shapes_from b (suc s) n ≡ Ok tt → (u ≡ s → ⊥) → shape_at b u ≡ Ok tt) → Dec (u ≡ s) → shape_at b u ≡ Ok tt
      go true q e later (yes p) = rw p (or_fine s (shape_at b s) (shapes_from b (suc s) n) e).0
      go true q e later (no p) = later (or_fine s (shape_at b s) (shapes_from b (suc s) n) e).1 p
      go false q e later (yes p) = absurd (true≢false (sym h ∙ rw p q))
      go false q e later (no p) = later e p

  each_fine : (n s : ℕ) → ((u : ℕ) → s ≤ u → u < s + n → start b u ≡ true → shape_at b u ≡ Ok tt) → shapes_from b s n ≡ Ok tt
  unfolding shapes_from or_else
  each_fine zero s f = refl
  each_fine (suc n) s f =
      let rest = each_fine n (suc s) (λ u l m h. f u (omega arith) (omega arith) h) in
      go (start b s) refl rest
    where
      go : (t : Bool) → start b s ≡ t → shapes_from b (suc s) n ≡ Ok tt → pick t (or_else s (shape_at b s) (shapes_from b (suc s) n)) (shapes_from b (suc s) n) ≡ Ok tt
      go true q r = rw (f s (omega arith) (omega arith) q) r
      go false q r = r

-- ---- all of it

with_fine : (r : Result ⊤ ℕ) → with_relocations r ≡ Ok tt → r ≡ Ok tt
unfolding with_relocations
with_fine (Ok _) e = refl
with_fine (Err k) e = let z : ◌≡◌ {A = ℕ} 0 1 = cc in absurd (omega arith)

and_fine : (b l : List ℕ) (x : Result ⊤ Shapes) → and_relocations b l x ≡ Ok tt → (x ≡ Ok tt) × (relocations b l ≡ Ok tt)
unfolding and_relocations
and_fine b l (Ok _) e = (refl, with_fine (relocations b l) e)
and_fine b l (Err f) e = absurd (never e)

pub judged_fine : (b l : List ℕ) → judged b l ≡ Ok tt → Fine b l
unfolding judged shapes
judged_fine b l e = go (length_ok b) refl e
  where
    go : (t : Bool) → length_ok b ≡ t → pick t (and_relocations b l (shapes b)) (Err Ss.BadLength) ≡ Ok tt → Fine b l
    go true q e =
        let p = and_fine b l (shapes b) e in
        record { length = q; each = λ s m h. fine_each b (slots b) 0 p.0 s (omega arith) (omega arith) h; relocs = p.1 }
    go false q e = let z : ◌≡◌ {A = ℕ} 0 1 = cc in absurd (omega arith)

pub fine_judged : (b l : List ℕ) → Fine b l → judged b l ≡ Ok tt
unfolding judged shapes and_relocations with_relocations
fine_judged b l f =
    let s : shapes b ≡ (Ok tt) = each_fine b (slots b) 0 (λ u _ m h. f.each u (omega arith) h) in
    rw (f.length, s, f.relocs)

pub judged_exactly : (b l : List ℕ) → (judged b l ≡ Ok tt) ↔ Fine b l
judged_exactly b l = (judged_fine b l, fine_judged b l)
