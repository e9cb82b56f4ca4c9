-- How much the tables of the passes hold. No public promise names this.
use Rattle.std.specs.Prelude.{ℕ, ◌≤◌, length}
use Rattle.passes.specs.Stages.{Spacious}
use Rattle.tracepoint.specs.declared.tables.Lists.{Lists}

-- tables for some blocks, targets and edges hold n blocks, and are no larger than those for 1,024
pub record Holds (n blocks targets edges : ℕ) : Type 0 where
  pub spacious : Spacious n blocks blocks blocks targets targets blocks edges
  pub few_targets : targets ≤ 2048
  pub few_edges : edges ≤ 1025

-- lent lists hold n blocks
abbrev pub Spans : ℕ → Lists → Type 0
Spans n l = Spacious n (length l.ids.now) (length l.endings.now) (length l.counts.now) (length l.named.now) (length l.numbers.now) (length l.emitted.now) (length l.edges.now)
