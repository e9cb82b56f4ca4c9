-- The bound cuts the keys between low and high.
use Rattle.std.proofs.Common.{◌-◌, ◌≤◌, ◌<◌, length}
use Rattle.std.specs.List.{AllWithin}
use Rattle.flow.proofs.blocks.below.Given as goal

abbrev pub invariant-loop-low : goal.invariant-loop-low
invariant-loop-low l =
    (l.low ≤ l.high) × (l.high ≤ length l.keys) × AllWithin (λ y. y < l.bound) l.keys 0 l.low × AllWithin (λ y. l.bound ≤ y) l.keys l.high (length l.keys)

abbrev pub decreases-loop-low : goal.decreases-loop-low
decreases-loop-low l = l.high - l.low
