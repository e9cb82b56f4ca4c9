-- Every run of code without a fault follows a path, whose mask tells what the run has written.
use mathlib.Core.Path.{◌≡◌}
use mathlib.Core.Bool.{true}
use mathlib.Core.List.{List}
use Prim.Native.Nat.{ℕ, suc, ◌<◌}
use native.Mathlib.Decide.{dec_lt}
use native.Mathlib.Omega.{arith}
use Rattle.shape.specs.Code.{slots, at, form_at, start}
use Rattle.shape.proofs.Starts.{start_first}
use Rattle.shape.proofs.Judged.{judged_fine}
use Rattle.shape.proofs.Rules.{Rules, fine_rules, has_form, jumps_to, goes_to}
use Rattle.paths.specs.Registers.{Regs}
use Rattle.paths.specs.Way.{Next, on, jump, Way, Way.begin, Way.step}
use Rattle.screen.specs.Faultless.{NoFault}
use Rattle.machine.specs.Memory.{Memory}
use Rattle.machine.specs.Turn as T
use Rattle.machine.specs.Run.{Run, Run.begin, Run.next}
use Rattle.sound.specs.OnWay.{OnWay}
use Rattle.sound.proofs.Follow.{tells_first, Leads, leads}

module _ (b l : List ℕ) (N : NoFault b l) where
  -- no path passes the last slot
  way_inside : {s : ℕ} {k : Regs} → Way b s k → s < slots b
  way_inside {s} {k} w = go (dec_lt s (slots b))
    where
      go : Dec (s < slots b) → s < slots b
      go (yes h) = h
      go (no h) = absurd (N.1.1.1 (s, (k, (w, omega arith))))

  module _ (s : ℕ) (inside : s < slots b) (starts : start b s ≡ true) where
    rules : Rules b s
    rules = fine_rules b s ((judged_fine b l N.1.0).each s inside starts)

    pub step_leads : (p : ℕ) (a : T.Answer) (m : Memory) → Leads (form_at b s) (at b s) s (T.step p (at b) a s m)
    unfolding T.step T.turn form_at
    step_leads p a m =
        leads (at b s) s p (form_at b s) (at b (suc s)).imm a m (has_form b s rules) (λ j. let J = jumps_to b s rules j in (J.0, J.1))

    -- a path goes on to a start
    next_start : {t : ℕ} → Next b s t → start b t ≡ true
    next_start (on e) = rw e at (goes_to b s rules starts inside).0
    next_start (jump {t} j e) =
        let J = jumps_to b s rules j in
        let z : J.0 ≡ t = cc (J.1, e) in
        rw z at J.3

  pub on_way : {p : ℕ} {h : List T.Effect} {s : ℕ} {m : Memory} → Run p (at b) h s m → OnWay b h s
  on_way (Run.begin m) = record { mask = _; way = Way.begin; tells = tells_first; inside = way_inside Way.begin; starts = start_first b }
  on_way {p} (Run.next {h} {s} {t} {m} {e} r a q) =
      let W = on_way r in
      let L : Leads (form_at b s) (at b s) s (T.on t e) = rw q at (step_leads s W.inside W.starts p a m) in
      let w = Way.step W.way W.inside L.0 in
      record { mask = _; way = w; tells = L.1 W.mask h W.tells; inside = way_inside w; starts = next_start s W.inside W.starts L.0 }
