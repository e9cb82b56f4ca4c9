-- `put_hex` puts the digits of one byte after the other.
use Prim.Native.Nat.{◌*◌}
use mathlib.Core.Path.{◌≡◌}
use lib.ListN.{length, take}
use Rattle.text.specs.Digits.{hex}
use Rattle.text.proofs.pieces.put_hex.Given as goal

abbrev pub invariant-loop-k : goal.invariant-loop-k
invariant-loop-k l = (length l.text ≡ 16) × (take (2 * l.k) l.text ≡ hex (take l.k l.bytes))
