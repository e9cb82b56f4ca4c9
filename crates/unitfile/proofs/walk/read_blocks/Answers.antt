use mathlib.Core.Path.{◌≡◌, sym, ◌∙◌}
use Prim.Native.Nat.{◌-◌}
use native.Mathlib.Omega.{arith}
use Rattle.std.proofs.Common.{rules}
use Rattle.unitfile.proofs.Passing.{block_passed, block_faulty, all_found, more_left}
use Rattle.unitfile.proofs.walk.read_blocks.Goals as goal

pub returns-in_err-at : goal.returns-in_err-at
returns-in_err-at c = search (rules, c.loop.invariant ∙ block_faulty _ _ _ _ _ (c.one_block.ensures _) _ c.loop.counter c.loop-test.true _ c.in_err-at.was)

pub loop-preserved : goal.loop-preserved
loop-preserved c = c.loop.invariant ∙ block_passed _ _ _ _ _ (c.one_block.ensures _) _ c.loop.counter c.loop-test.true _ c.in_ok-at.was

pub returns-then-at-s : goal.returns-then-at-s
returns-then-at-s c = let z : c.args.found.blocks - c.loop.counter ≡ 0 = omega arith in sym (c.loop.invariant ∙ rw z (all_found _ _ _ _ c.if-at-s.true))

pub returns : goal.returns
returns c = let z : c.args.found.blocks - c.loop.counter ≡ 0 = omega arith in sym (c.loop.invariant ∙ rw z (more_left _ _ _ _ c.if-at-s.false))
