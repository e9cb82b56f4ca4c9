-- The screen's table: yes, 38 and 39 fill it, 30 to 37 leave it; where no path comes to a slot its entry is 2,047.
use mathlib.Core.Path.{◌≡◌, refl, sym, ap, ◌∙◌}
use mathlib.Core.Bool.{Bool, true, false, true≢false}
use mathlib.Core.List.{List}
use Prim.Native.Nat.{ℕ, ◌<◌}
use lib.Dec.{leb}
use lib.ListN.{length, get_or}
use Rattle.wire.specs.Pick.{pick}
use Rattle.shape.specs.Code.{slots}
use Rattle.shape.specs.Shapes.{length_ok, judged}
use Rattle.shape.specs.declared.Shape.{Shape}
use Rattle.shape.specs.declared.Shape.TheVariants as S
use Rattle.shape.specs.declared.Shapes.{Shapes}
use Rattle.shape.specs.declared.Shapes.TheVariants as Ss
use Rattle.paths.specs.Way.{Reached}
use Rattle.paths.specs.Readable.{Filled}
use Rattle.paths.proofs.Unreached.{below_reached, no_path_full}
use Rattle.screen.specs.declared.Fault.TheVariants.{BadLength, ShortTable}
use Rattle.screen.specs.Verdict.{Before, fine, refused, of_shape, of_fault, of_shapes, before_paths, Judged, passed, unreadable, past, ScreenedAfter, Screened, fills}
use Rattle.screen.specs.declared.Fault.{Fault}
use Rattle.std.specs.Prelude.{Err, Ok, Result, ⊤}

-- ---- what is refused before the paths leaves the table

abbrev Leaves : Before → Type 0
Leaves fine = Unit {0}
Leaves (refused f) = fills (Err f) ≡ false

shape_leaves : (s : ℕ) (f : Shape) → fills (Err (of_shape s f)) ≡ false
unfolding of_shape fills
shape_leaves s S.Unknown = refl
shape_leaves s S.Register = refl
shape_leaves s S.Unused = refl
shape_leaves s S.Access = refl
shape_leaves s S.Target = refl

shapes_leave : (x : Result ⊤ Shapes) → Leaves (of_shapes x)
unfolding of_shapes of_fault fills
shapes_leave (Ok _) = tt
shapes_leave (Err Ss.BadLength) = refl
shapes_leave (Err (Ss.Faulty s f)) = shape_leaves s f
shapes_leave (Err (Ss.Relocation k)) = refl

before_leaves : (b l : List ℕ) (entries : ℕ) → Leaves (before_paths b l entries)
unfolding before_paths fills
before_leaves b l entries = go (length_ok b) (leb (slots b) entries)
  where
    go : (x y : Bool) → Leaves (pick x (pick y (of_shapes (judged b l)) (refused (ShortTable (slots b)))) (refused BadLength))
    go true true = shapes_leave (judged b l)
    go true false = refl
    go false y = refl

judged_fills : {b : List ℕ} {v : Result ⊤ Fault} → Judged b v → fills v ≡ true
unfolding fills
judged_fills (passed c p) = refl
judged_fills (unreadable L c) = refl
judged_fills (past c p) = refl

-- ---- the table

module _ (b l t : List ℕ) (v : Result ⊤ Fault) (u : List ℕ) (P : Screened b l t v u) where
  pub filled : fills v ≡ true → Filled b t u
  filled e = go (before_paths b l (length t)) (before_leaves b l (length t)) P
    where
      go : (before : Before) → Leaves before → ScreenedAfter before b t v u → Filled b t u
      go fine z p = p.1
      go (refused f) z p = absurd (true≢false (sym e ∙ ap fills p.0 ∙ z))

  pub kept : fills v ≡ false → u ≡ t
  kept e = go (before_paths b l (length t)) P
    where
      go : (before : Before) → ScreenedAfter before b t v u → u ≡ t
      go fine p = absurd (true≢false (sym (judged_fills p.0) ∙ e))
      go (refused f) p = p.1

  -- where no path comes
  pub no_path_2047 : fills v ≡ true → (s : ℕ) → s < slots b → (Reached b s → ⊥) → get_or u s 0 ≡ 2047
  no_path_2047 e = no_path_full b t u (filled e)

  pub below_2047_path : fills v ≡ true → (s : ℕ) → s < slots b → get_or u s 0 < 2047 → Reached b s
  below_2047_path e = below_reached b t u (filled e)
