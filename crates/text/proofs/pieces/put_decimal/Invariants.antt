-- `put_decimal` takes the last digit first: those from i on stand, and the number that is left has the digits before i.
use Prim.Native.Nat.{ℕ, ◌<◌, ◌≤◌}
use mathlib.Core.Path.{◌≡◌}
use lib.ListN.{length, get_or, take}
use Rattle.text.specs.Digits.{decimal}
use Rattle.text.proofs.pieces.put_decimal.Given as goal

abbrev pub invariant-loop-i : goal.invariant-loop-i
invariant-loop-i l = record {
  same_length : length l.text ≡ 20;
  small : l.left ≤ l.n;
  stands : (k : ℕ) → l.i ≤ k → k < l.count → get_or l.text k 0 ≡ get_or (decimal l.n) k 0;
  before : 0 < l.i → decimal l.left ≡ take l.i (decimal l.n);
}
