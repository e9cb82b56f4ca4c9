-- Code that the screen passes is safe to run: whatever the context, the registers, R10 and the frame are, and whatever the outside answers.
use mathlib.Core.List.{List}
use Prim.Native.Nat.{ℕ}
use native.Mathlib.Omega.{arith}
use Rattle.shape.specs.Code.{at}
use Rattle.screen.specs.Verdict.{Screened}
use Rattle.screen.specs.Faultless.{NoFault}
use Rattle.screen.proofs.Exact.{yes_says}
use Rattle.machine.specs.Memory.{Memory}
use Rattle.machine.specs.Turn.{Effect}
use Rattle.machine.specs.Run.{Run}
use Rattle.sound.specs.Safe.{Safe, Met, unreadable, past}
use Rattle.sound.proofs.OnWay.{on_way, step_leads}
use Rattle.std.specs.Prelude.{Ok}

pub sound : (b l : List ℕ) → NoFault b l → {p : ℕ} {h : List Effect} {s : ℕ} {m : Memory} → Run p (at b) h s m → Safe p b h s m
sound b l N {p} {h} {s} {m} r =
    let W = on_way b l N r in
    record {
      inside = W.inside;
      starts = W.starts;
      has_written = λ x e. (W.tells.at x).0 (N.1.1.0 s W.inside x e W.mask W.way);
      moves = λ a e. rw e at (step_leads b l N s W.inside W.starts p a m);
    }

-- so for code to which the screen says yes, with any table
pub screened : (b l t u : List ℕ) → Screened b l t (Ok tt) u → {p : ℕ} {h : List Effect} {s : ℕ} {m : Memory} → Run p (at b) h s m → Safe p b h s m
screened b l t u y = sound b l (yes_says b l t u y).0

-- no path fault is ever met
pub none_met : (b l : List ℕ) → NoFault b l → {p : ℕ} {h : List Effect} {s : ℕ} {m : Memory} → Run p (at b) h s m → Met b h s → ⊥
none_met b l N r (unreadable x e n) = n ((sound b l N r).has_written x e)
none_met b l N r (past p) = let S = sound b l N r in omega arith
