-- Reaching by block numbers: ways from a first number over the numbered targets, and marks that tell where a way leads.
use Rattle.std.specs.Prelude.{ℕ, ◌<◌, ◌≡◌, ◌⊎◌, Bool, true, false, List, length, get_or}
use Rattle.flow.specs.Linked.{targets_at}

-- the numbers that block b goes to
abbrev pub outs : List ℕ → List ℕ → ℕ → List ℕ
outs counts targets b = targets_at (get_or counts b 0) b targets

-- a way leads on from each of the n blocks
pub data Way (n first : ℕ) (counts targets : List ℕ) : ℕ → Type 0 where
  start : Way n first counts targets first
  go : {b : ℕ} → Way n first counts targets b → b < n → (i : ℕ) → i < length (outs counts targets b) → Way n first counts targets (get_or (outs counts targets b) i 0)

-- no block is marked
abbrev pub Clear : List Bool → Type 0
Clear marks = (b : ℕ) → get_or marks b false ≡ false

-- block b is marked where a way leads to it, and only there
pub record Marked (n first : ℕ) (counts targets : List ℕ) (marks : List Bool) : Type 0 where
  pub each : (b : ℕ) → b < n → ((get_or marks b false ≡ true) × Way n first counts targets b) ⊎ ((get_or marks b false ≡ false) × (Way n first counts targets b → ⊥))
