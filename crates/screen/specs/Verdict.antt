-- The screen's verdict, and what it leaves in the table.
use Rattle.std.specs.Prelude.{ℕ, ◌<◌, Bool, true, false, ◌≡◌, List, leb, pos, length, Err, Ok, Result, ⊤}
use Rattle.wire.specs.Pick.{pick}
use Rattle.wire.specs.declared.refusal.Refusal.{Refusal}
use Rattle.shape.specs.Code.{slots}
use Rattle.shape.specs.Shapes.{length_ok, judged}
use Rattle.shape.specs.declared.Shape.{Shape}
use Rattle.shape.specs.declared.Shape.TheVariants as S
use Rattle.shape.specs.declared.Shapes.{Shapes}
use Rattle.shape.specs.declared.Shapes.TheVariants as Ss
use Rattle.paths.specs.Way.{Clear, Lacking, Passes}
use Rattle.paths.specs.Readable.{Filled}
use Rattle.screen.specs.declared.Fault.{Fault}
use Rattle.screen.specs.declared.Fault.TheVariants.{BadLength, ShortTable, Unknown, Register, Unused, Access, Target, Relocation, Unreadable, PastEnd}

-- 01's number, place and value of each fault
unfoldable pub refusal_of : Fault → Refusal
refusal_of BadLength = record { number = 30; place = 0; value = pos 0 }
refusal_of (ShortTable slots) = record { number = 31; place = 0; value = pos slots }
refusal_of (Unknown slot) = record { number = 32; place = slot; value = pos 0 }
refusal_of (Register slot) = record { number = 33; place = slot; value = pos 0 }
refusal_of (Unused slot) = record { number = 34; place = slot; value = pos 0 }
refusal_of (Access slot) = record { number = 35; place = slot; value = pos 0 }
refusal_of (Target slot) = record { number = 36; place = slot; value = pos 0 }
refusal_of (Relocation index) = record { number = 37; place = index; value = pos 0 }
refusal_of (Unreadable slot register) = record { number = 38; place = slot; value = pos register }
refusal_of (PastEnd slots) = record { number = 39; place = slots; value = pos 0 }

-- what comes before the paths: 30, 31, the shape rules, 37
pub data Before : Type 0 where
  fine : Before
  refused : Fault → Before

unfoldable pub of_shape : ℕ → Shape → Fault
of_shape s S.Unknown = Unknown s
of_shape s S.Register = Register s
of_shape s S.Unused = Unused s
of_shape s S.Access = Access s
of_shape s S.Target = Target s

unfoldable pub of_fault : Shapes → Fault
of_fault Ss.BadLength = BadLength
of_fault (Ss.Faulty s f) = of_shape s f
of_fault (Ss.Relocation k) = Relocation k

unfoldable pub of_shapes : Result ⊤ Shapes → Before
of_shapes (Ok _) = fine
of_shapes (Err f) = refused (of_fault f)

unfoldable pub before_paths : List ℕ → List ℕ → ℕ → Before
before_paths b l entries =
    pick (length_ok b) (pick (leb (slots b) entries) (of_shapes (judged b l)) (refused (ShortTable (slots b)))) (refused BadLength)

-- the verdict on the paths: 38 names the lowest slot and there the lowest register, 39 comes where no slot is at fault
pub data Judged (b : List ℕ) : Result ⊤ Fault → Type 0 where
  passed : ((s : ℕ) → s < slots b → Clear b s) → (Passes b → ⊥) → Judged b (Ok tt)
  unreadable : {s r : ℕ} → Lacking b s r → ((t : ℕ) → t < s → Clear b t) → Judged b (Err (Unreadable s r))
  past : ((s : ℕ) → s < slots b → Clear b s) → Passes b → Judged b (Err (PastEnd (slots b)))

-- the answer v and the table t, which becomes u, after what came before the paths
abbrev pub ScreenedAfter : Before → List ℕ → List ℕ → Result ⊤ Fault → List ℕ → Type 0
ScreenedAfter fine b t v u = Judged b v × Filled b t u
ScreenedAfter (refused f) b t v u = (v ≡ Err f) × (u ≡ t)

abbrev pub Screened : List ℕ → List ℕ → List ℕ → Result ⊤ Fault → List ℕ → Type 0
Screened b l t v u = ScreenedAfter (before_paths b l (length t)) b t v u

-- yes, 38 and 39, which fill the table
unfoldable pub fills : Result ⊤ Fault → Bool
fills (Ok _) = true
fills (Err BadLength) = false
fills (Err (ShortTable slots)) = false
fills (Err (Unknown slot)) = false
fills (Err (Register slot)) = false
fills (Err (Unused slot)) = false
fills (Err (Access slot)) = false
fills (Err (Target slot)) = false
fills (Err (Relocation index)) = false
fills (Err (Unreadable slot register)) = true
fills (Err (PastEnd slots)) = true
