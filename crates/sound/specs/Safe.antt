-- What is promised of a run of code b, with p in R10, that has come to slot s.
use Rattle.std.specs.Prelude.{ℕ, ◌≤◌, ◌<◌, true, ◌≡◌, List}
use Rattle.shape.specs.Code.{slots, at, form_at, start}
use Rattle.paths.specs.Registers.{reads}
use Rattle.machine.specs.Memory.{Memory}
use Rattle.machine.specs.Turn.{Answer, Effect, stuck, step}
use Rattle.sound.specs.Written.{Written}

-- it stands on the start of an instruction inside the code; the registers that the instruction reads have been written; and there is a step, whatever the answer
pub record Safe (p : ℕ) (b : List ℕ) (h : List Effect) (s : ℕ) (m : Memory) : Type 0 where
  pub inside : s < slots b
  pub starts : start b s ≡ true
  pub has_written : (r : ℕ) → reads (form_at b s) (at b s) r ≡ true → Written r h
  pub moves : (a : Answer) → step p (at b) a s m ≡ stuck → ⊥

-- a path fault is met: the instruction reads a register that is not readable (38), or the run has passed the last slot (39)
pub data Met (b : List ℕ) (h : List Effect) (s : ℕ) : Type 0 where
  unreadable : (r : ℕ) → reads (form_at b s) (at b s) r ≡ true → (Written r h → ⊥) → Met b h s
  past : slots b ≤ s → Met b h s
