-- `cut` leaves 11 bits of each entry.
use Rattle.std.proofs.Common.{◌≡◌, ℕ, ◌%◌, ◌<◌, ◌≤◌, get_or}
use Rattle.paths.proofs.work.cut.Given as goal

abbrev pub invariant-loop-x : goal.invariant-loop-x
invariant-loop-x l =
    record {
      done : (k : ℕ) → k < l.x-index → get_or l.t k 0 ≡ get_or l.initial.t k 0 % 2048;
      rest : (k : ℕ) → l.x-index ≤ k → get_or l.t k 0 ≡ get_or l.initial.t k 0;
    }
