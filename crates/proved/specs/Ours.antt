-- What is promised of the code that `compile_tracepoint` writes.
use Rattle.std.specs.Prelude.{ℕ, ◌≤◌, ◌<◌, true, ◌≡◌, ◌⊎◌, length, Err, Ok, Result, ⊤}
use mathlib.Core.List.{List, Memᴰ}
use Rattle.insn.specs.Rfc.{width}
use Rattle.insn.specs.declared.form.Size.{Size}
use Rattle.insn.specs.declared.form.Form.TheVariants.{Ldx, Stx}
use Rattle.unitfile.specs.Unit.{UnitIr}
use Rattle.survey.specs.Collected.{all, collected}
use Rattle.lower.specs.Op.{Op}
use Rattle.layout.specs.Emitted.{emitted}
use Rattle.layout.specs.Layout.{laid, unit_ops}
use Rattle.layout.specs.Jumps.{Jump, jumps}
use Rattle.shape.specs.Code.{slots, at, form_at, start}
use Rattle.shape.specs.Shape.{in_frame}
use Rattle.screen.specs.Verdict.{Screened}
use Rattle.screen.specs.declared.Fault.TheVariants.{PastEnd}
use Rattle.machine.specs.Memory.{Memory}
use Rattle.machine.specs.Turn.{Effect}
use Rattle.machine.specs.Run.{Run}
use Rattle.sound.specs.Safe.{Safe}
use Rattle.ours.specs.Landing.{OnLast, JumpsTo, Among, OwnJump}
use Rattle.proved.specs.Compiled.{context_of}
use Rattle.screen.specs.declared.Fault.{Fault}

-- every load and store of w bytes through R10 lies inside the frame, on a multiple of w
pub record FrameAccesses (b : List ℕ) : Type 0 where
  pub loads : (s : ℕ) (w : Size) → s < slots b → start b s ≡ true → form_at b s ≡ Ldx w → (at b s).src ≡ 10 → in_frame (at b s).off (width w) ≡ true
  pub stores : (s : ℕ) (w : Size) → s < slots b → start b s ≡ true → form_at b s ≡ Stx w → (at b s).dst ≡ 10 → in_frame (at b s).off (width w) ≡ true

-- whatever verdict w and table t' meet the screen's promise of the code b and the relocations l, w is v; t is any table of at least n entries
abbrev pub Screens : List ℕ → List ℕ → ℕ → Result ⊤ Fault → Type 0
Screens b l n v = (t t' : List ℕ) (w : Result ⊤ Fault) → n ≤ length t → Screened b l t w t' → w ≡ v

-- the code b, of n slots, and the relocations l that the unit u becomes
pub record Ours (u : UnitIr) (n : ℕ) (b l : List ℕ) : Type 0 where
  pub passes : 0 < length u.blocks → Screens b l n (Ok tt)
  pub past_end : length u.blocks ≡ 0 → Screens b l n (Err (PastEnd 1))
  pub safe : 0 < length u.blocks → {p : ℕ} {h : List Effect} {s : ℕ} {m : Memory} → Run p (at b) h s m → Safe p b h s m
  pub inside : FrameAccesses b
  pub lands : (vs : List ℕ) → collected u.blocks ≡ all vs
      → (x : Jump) → Memᴰ x (jumps (context_of u vs) (emitted u.blocks)) → OnLast (context_of u vs) (emitted u.blocks) b x
  pub no_other : (vs : List ℕ) → collected u.blocks ≡ all vs → (ops : List Op) → unit_ops (context_of u vs) (emitted u.blocks) ≡ laid ops
      → (p q : ℕ) → p < n → start b p ≡ true → JumpsTo b p q → ((id : ℕ) × Among (jumps (context_of u vs) (emitted u.blocks)) p id) ⊎ OwnJump (context_of u vs) (emitted u.blocks) ops p q
