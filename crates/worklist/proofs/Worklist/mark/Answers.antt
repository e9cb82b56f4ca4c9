-- `mark` puts a slot in.
use Rattle.std.proofs.Common.{◌/◌, ◌%◌, refl, arith}
use borrow.Author.Tests.{lt-ltb, le-ltb}
use Rattle.wire.proofs.Bits.{shl_one}
use Rattle.worklist.specs.Set.{marked_low, marked_mid, marked_top}
use Rattle.worklist.proofs.Worklist.mark.Goals as goal

pub returns-then-slot-lt131072 : goal.returns-then-slot-lt131072
unfolding marked_low marked_mid marked_top
returns-then-slot-lt131072 c =
    let k = c.args.slot in
    simp (shl_one (k % 64) 64 (omega arith), shl_one (k / 64 % 64) 64 (omega arith), shl_one (k / 64 / 64) 64 (omega arith), lt-ltb _ _ c.if-slot-lt131072.true)
    (record { low = refl; mid = refl; top = refl })

pub returns-else-slot-lt131072 : goal.returns-else-slot-lt131072
unfolding marked_low marked_mid marked_top
returns-else-slot-lt131072 c = simp (le-ltb _ _ c.if-slot-lt131072.false) (record { low = refl; mid = refl; top = refl })
