use Rattle.std.proofs.Common.{◌%◌, ◌<◌, arith}
use Rattle.wire.proofs.Bits.{shl_one}
use Rattle.shape.specs.Code.{slots}
use Rattle.shape.specs.Set.{with}
use Rattle.shape.proofs.Members.{filled_none, filled_more}
use Rattle.shape.proofs.set.fill.Goals as goal

pub loop-s-init : goal.loop-s-init
loop-s-init c = filled_none _ _ c.requires.words_value

pub loop-s-preserved : goal.loop-s-preserved
unfolding slots with
loop-s-preserved c =
    let l = c.loop-s in
    let h : l.s < 131072 = omega (arith, c.requires.code_bound) in
    rw (c.next-s.ensures, shl_one (l.s % 64) 64 (omega arith)) (filled_more c.args.code.now l.words l.s h l.invariant)
