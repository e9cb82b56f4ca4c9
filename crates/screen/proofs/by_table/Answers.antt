use Prim.Native.Nat.{◌<◌}
use native.Mathlib.Omega.{arith}
use lib.ListN.{length, get_or}
use borrow.Author.Count.{below_more}
use Rattle.shape.specs.Code.{slots}
use Rattle.screen.specs.Verdict.{unreadable}
use Rattle.screen.proofs.Pass.{clear, first, at_end}
use Rattle.screen.proofs.by_table.Goals as goal

pub lacking_at-lacks-requires : goal.lacking_at-lacks-requires
unfolding slots
lacking_at-lacks-requires c =
    let s = c.loop-s.s in
    let h : s < slots c.args.code.now = c.loop-s-test.true in
    ((omega (arith, c.requires.apt.room), omega (arith, c.requires.apt.most)), (c.requires.by_index s h).small)

pub returns-then-lacks-gt0 : goal.returns-then-lacks-gt0
unfolding slots
returns-then-lacks-gt0 c =
    let L = c.loop-s in
    let lacks = c.lacking_at-lacks in
    let h : L.s < slots c.args.code.now = c.loop-s-test.true in
    rw (c.lowest-register.ensures, lacks.ensures) (unreadable (first c.args.code.now (length c.args.table.now) c.requires.apt L.s (get_or c.args.table.now L.s 0) h (c.requires.by_index L.s h) (omega (arith, lacks.ensures))) L.invariant)

pub loop-s-preserved : goal.loop-s-preserved
unfolding slots
loop-s-preserved c =
    let L = c.loop-s in
    let h : L.s < slots c.args.code.now = c.loop-s-test.true in
    let z = clear c.args.code.now (length c.args.table.now) c.requires.apt L.s (get_or c.args.table.now L.s 0) h (c.requires.by_index L.s h) (omega (arith, c.lacking_at-lacks.ensures)) in
    below_more _ _ L.invariant z

pub returns : goal.returns
unfolding slots
returns c =
    rw c.ended.ensures (at_end c.args.code.now c.args.ends (λ s h. c.loop-s.invariant s (omega arith)) c.requires.told)
