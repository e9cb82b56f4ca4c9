-- The paths through code: from slot 0, both sides of each conditional jump.
use Rattle.std.specs.Prelude.{ℕ, suc, ◌+◌, ◌<◌, ◌≤◌, true, false, ◌≡◌, List, pos}
use Rattle.insn.specs.declared.Insn.{Insn}
use Rattle.insn.specs.declared.form.Form.{Form}
use Rattle.shape.specs.Code.{slots, at, form_at}
use Rattle.shape.specs.Fields.{uses}
use Rattle.shape.specs.Shape.{target}
use Rattle.paths.specs.Registers.{Regs, reads, at_start, after}

-- a slot comes next after the instruction i of form f at slot s: a path goes on, or jumps
pub data Ahead (f : Form) (i : Insn) (s : ℕ) : ℕ → Type 0 where
  on : {n : ℕ} → (uses f).goes_on ≡ suc n → Ahead f i s (s + suc n)
  jump : {t : ℕ} → (uses f).jumps ≡ true → target s i.off ≡ pos t → Ahead f i s t

-- slot t comes next after slot s
abbrev pub Next : List ℕ → ℕ → ℕ → Type 0
Next b s t = Ahead (form_at b s) (at b s) s t

-- a path from slot 0 to slot s, with the registers that are readable at its end
pub data Way (b : List ℕ) : ℕ → Regs → Type 0 where
  begin : Way b 0 at_start
  step : {s t : ℕ} {m : Regs} → Way b s m → s < slots b → Next b s t → Way b t (after (form_at b s) (at b s) m)

-- some path comes to slot s
abbrev pub Reached : List ℕ → ℕ → Type 0
Reached b s = (m : Regs) × Way b s m

-- register r is readable on every path to slot s; and some path comes there without it
abbrev pub Always : List ℕ → ℕ → ℕ → Type 0
Always b s r = (m : Regs) → Way b s m → m r ≡ true

abbrev pub Lacks : List ℕ → ℕ → ℕ → Type 0
Lacks b s r = (m : Regs) × (Way b s m × (m r ≡ false))

-- no path comes to slot s without a register that is read there
abbrev pub Clear : List ℕ → ℕ → Type 0
Clear b s = (r : ℕ) → reads (form_at b s) (at b s) r ≡ true → Always b s r

-- register r is read at slot s, some path comes without it, and it is the lowest such
pub record Lacking (b : List ℕ) (s r : ℕ) : Type 0 where
  pub inside : s < slots b
  pub read : reads (form_at b s) (at b s) r ≡ true
  pub lacks : Lacks b s r
  pub lowest : (q : ℕ) → q < r → reads (form_at b s) (at b s) q ≡ true → Always b s q

-- a path passes the last slot
abbrev pub Passes : List ℕ → Type 0
Passes b = (t : ℕ) × ((m : Regs) × (Way b t m × (slots b ≤ t)))
