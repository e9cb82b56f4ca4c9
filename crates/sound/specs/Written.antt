-- Which registers a run has written, by what its steps did.
use Rattle.std.specs.Prelude.{ℕ, ◌≤◌, ◌≡◌, List, [], ◌∷◌}
use Rattle.machine.specs.Turn.{Effect, keeps, writes, frame, calls}

-- the step wrote register r; a call writes R0
abbrev pub Wrote : Effect → ℕ → Type 0
Wrote keeps r = ⊥
Wrote (writes d v) r = r ≡ d
Wrote (frame c) r = ⊥
Wrote (calls a) r = r ≡ 0

-- the step left register r unreadable: a call R1 to R5
abbrev pub Took : Effect → ℕ → Type 0
Took keeps r = ⊥
Took (writes d v) r = ⊥
Took (frame c) r = ⊥
Took (calls a) r = (1 ≤ r) × (r ≤ 5)

-- register r is R1 or R10 from the start, or a step wrote it, and no call has left it unreadable since; the latest step comes first
pub data Written (r : ℕ) : List Effect → Type 0 where
  context : r ≡ 1 → Written r []
  pointer : r ≡ 10 → Written r []
  now : {e : Effect} {h : List Effect} → Wrote e r → Written r (e ∷ h)
  since : {e : Effect} {h : List Effect} → Written r h → (Took e r → ⊥) → Written r (e ∷ h)
