-- Nothing is refused before the paths exactly where the table has room and the shapes are judged fine.
use mathlib.Core.Path.{◌≡◌, refl}
use mathlib.Core.Bool.{Bool, true, false}
use mathlib.Core.List.{List}
use Prim.Native.Nat.{ℕ, zero, suc, ◌≤◌}
use native.Mathlib.Omega.{arith}
use lib.Dec.{leb}
use borrow.Author.Tests.{leb-true, le-leb}
use Rattle.wire.specs.Pick.{pick}
use Rattle.shape.specs.Code.{slots, start}
use Rattle.shape.specs.Shape.{shape_at}
use Rattle.shape.specs.Relocations.{relocations}
use Rattle.shape.specs.Shapes.{or_else, shapes_from, shapes, length_ok, with_relocations, and_relocations, judged}
use Rattle.shape.specs.declared.Shape.{Shape}
use Rattle.shape.specs.declared.Shape.TheVariants as S
use Rattle.shape.specs.declared.Shapes.{Shapes}
use Rattle.shape.specs.declared.Shapes.TheVariants as Ss
use Rattle.shape.proofs.Judged.{judged_fine}
use Rattle.screen.specs.declared.Fault.{Fault}
use Rattle.screen.specs.declared.Fault.TheVariants.{BadLength, ShortTable, Unknown, Register, Unused, Access, Target, Relocation}
use Rattle.screen.specs.Verdict.{fine, refused, of_fault, of_shapes, before_paths}
use Rattle.std.specs.Prelude.{Err, Ok, Result, ⊤}

never : (f : Fault) → refused f ≡ fine → ⊥
never f e = let z : ◌≡◌ {A = ℕ} 0 1 = cc in omega arith

fine_sound : (x : Result ⊤ Shapes) → of_shapes x ≡ fine → x ≡ Ok tt
unfolding of_shapes
fine_sound (Ok _) e = refl
fine_sound (Err f) e = absurd (never (of_fault f) e)

-- ---- the whole

pub parts : (b l : List ℕ) (entries : ℕ) → before_paths b l entries ≡ fine → (slots b ≤ entries) × (judged b l ≡ Ok tt)
unfolding before_paths judged shapes
parts b l entries e = go (length_ok b) (leb (slots b) entries) refl e
  where
    go : (x y : Bool) → leb (slots b) entries ≡ y
        → pick x (pick y (of_shapes (pick x (and_relocations b l (shapes b)) (Err Ss.BadLength))) (refused (ShortTable (slots b)))) (refused BadLength) ≡ fine
        → (slots b ≤ entries) × (pick x (and_relocations b l (shapes b)) (Err Ss.BadLength) ≡ Ok tt)
    go true true ey e = (leb-true (slots b) entries ey, fine_sound _ e)
    go true false ey e = absurd (never (ShortTable (slots b)) e)
    go false y ey e = absurd (never BadLength e)

-- and the other way round
pub whole : (b l : List ℕ) (entries : ℕ) → slots b ≤ entries → judged b l ≡ Ok tt → before_paths b l entries ≡ fine
unfolding before_paths of_shapes
whole b l entries room j = simp ((judged_fine b l j).length, le-leb (slots b) entries room, j)
