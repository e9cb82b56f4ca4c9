use Rattle.std.proofs.Common.{◌≡◌, ◌<◌, ℕ, false, get_or}
use Rattle.wire.specs.Pick.{pick}
use Rattle.flow.specs.Linked.{number_from}
use Rattle.flow.proofs.blocks.Blocks.put_flags.Given as goal

abbrev pub invariant-loop-i : goal.invariant-loop-i
invariant-loop-i l = (k : ℕ) → k < l.i → get_or l.emitted k 0 ≡ pick (get_or l.marks (number_from 0 l.self.ids.now (get_or l.self.ids.now k 0)) false) 1 0
