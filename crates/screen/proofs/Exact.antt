-- The screen says yes exactly where there is no fault.
use mathlib.Core.Path.{◌≡◌, refl}
use mathlib.Core.Logic.{◌↔◌}
use mathlib.Core.List.{List}
use Prim.Native.Nat.{ℕ, ◌≤◌}
use native.Mathlib.Omega.{arith}
use lib.ListN.{length}
use Rattle.shape.specs.Code.{slots}
use Rattle.shape.proofs.Judged.{judged_fine}
use Rattle.paths.specs.Readable.{Filled}
use Rattle.screen.specs.Verdict.{Before, fine, refused, before_paths, Judged, passed, unreadable, past, ScreenedAfter, Screened}
use Rattle.screen.specs.Faultless.{NoPathFault, NoFault}
use Rattle.screen.proofs.Before.{parts, whole}
use Rattle.screen.proofs.OneAnswer.{one_verdict}
use Rattle.screen.specs.declared.Fault.{Fault}
use Rattle.std.specs.Prelude.{Ok, Result, ⊤}

yes_parts : (b : List ℕ) {v : Result ⊤ Fault} → Judged b v → v ≡ Ok tt → NoPathFault b
yes_parts b (passed c p) e = (c, p)
yes_parts b (unreadable L c) e = let z : ◌≡◌ {A = ℕ} 0 1 = cc in absurd (omega arith)
yes_parts b (past c p) e = let z : ◌≡◌ {A = ℕ} 0 1 = cc in absurd (omega arith)

fine_here : (b l t u : List ℕ) → Screened b l t (Ok tt) u → before_paths b l (length t) ≡ fine
fine_here b l t u p = go (before_paths b l (length t)) p
  where
    go : (before : Before) → ScreenedAfter before b t (Ok tt) u → before ≡ fine
    go fine p = refl
    go (refused f) p = let z : ◌≡◌ {A = ℕ} 0 1 = cc p.0 in absurd (omega arith)

-- a yes says that there is no fault
pub yes_says : (b l t u : List ℕ) → Screened b l t (Ok tt) u → NoFault b l × Filled b t u
yes_says b l t u p =
    let e = fine_here b l t u p in
    let F = parts b l (length t) e in
    let q = rw e at p in
    (((judged_fine b l F.1).length, (F.1, yes_parts b q.0 refl)), q.1)

pub exact : (b l t u : List ℕ) → slots b ≤ length t → Screened b l t (Ok tt) u ↔ (NoFault b l × Filled b t u)
exact b l t u room = (yes_says b l t u, back)
  where
    back : NoFault b l × Filled b t u → Screened b l t (Ok tt) u
    back (n, f) = rw (whole b l (length t) room n.1.0) (passed n.1.1.0 n.1.1.1, f)

-- whatever answer meets the promise
pub says_yes : (b l t : List ℕ) (v : Result ⊤ Fault) (u : List ℕ) → slots b ≤ length t → Screened b l t v u → (v ≡ Ok tt) ↔ NoFault b l
says_yes b l t v u room p = (there, back)
  where
    there : v ≡ Ok tt → NoFault b l
    there e = ((exact b l t u room).0 (rw e at p)).0

    back : NoFault b l → v ≡ Ok tt
    back n =
        let e = whole b l (length t) room n.1.0 in
        let q = rw e at p in
        (one_verdict b l t v (Ok tt) u u p ((exact b l t u room).1 (n, q.1))).0
