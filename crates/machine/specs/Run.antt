-- A run of code, whatever the outside answers.
use Rattle.std.specs.Prelude.{ℕ, ◌≡◌, List, [], ◌∷◌}
use Rattle.insn.specs.declared.Insn.{Insn}
use Rattle.machine.specs.Memory.{Memory}
use Rattle.machine.specs.Turn.{Answer, Effect, after, on, step}

-- from slot 0, with any registers (R1 the context's address), any number p in R10 and any frame; each step with any answer. A run has
-- come to a slot, with these registers and this frame; its history is what its steps did, the latest first
pub data Run (p : ℕ) (code : ℕ → Insn) : List Effect → ℕ → Memory → Type 0 where
  begin : (m : Memory) → Run p code [] 0 m
  next : {h : List Effect} {s t : ℕ} {m : Memory} {e : Effect} → Run p code h s m → (a : Answer) → step p code a s m ≡ on t e → Run p code (e ∷ h) t (after e m)
