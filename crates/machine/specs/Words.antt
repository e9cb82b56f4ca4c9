-- Registers and cells that hold numbers of 64 bits.
use Rattle.std.specs.Prelude.{ℕ, ◌^◌, ◌<◌}
use Rattle.machine.specs.Memory.{Memory}
use Rattle.machine.specs.Turn.{Answer}

pub record Words (m : Memory) : Type 0 where
  pub regs : (r : ℕ) → m.regs r < 2 ^ 64
  pub cells : (i : ℕ) → m.cells i < 2 ^ 64

pub record Fitting (a : Answer) : Type 0 where
  pub value : a.value < 2 ^ 64
  pub rest : (r : ℕ) → a.rest r < 2 ^ 64
  pub frame : (c : ℕ → ℕ) → ((i : ℕ) → c i < 2 ^ 64) → (i : ℕ) → a.frame c i < 2 ^ 64
