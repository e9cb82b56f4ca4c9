use mathlib.Core.Path.{◌≡◌, sym, ◌∙◌}
use Prim.Native.Nat.{◌+◌, ◌-◌}
use native.Mathlib.Omega.{arith}
use lib.ListN.{get_or}
use Rattle.std.proofs.Common.{rules}
use Rattle.recordfields.specs.Meant.{operand_from, operands_from}
use Rattle.recordfields.proofs.Pairs.{one_broken, one_more_lem}
use Rattle.recordfields.proofs.meant.operands_from.Goals as goal

pub returns-in_err-o : goal.returns-in_err-o
returns-in_err-o c =
    let read : c.operand_from.result ≡ operand_from (get_or c.args.fields.now c.loop.i 0) (get_or c.args.fields.now (c.loop.i + 1) 0) = c.operand_from.ensures ∙ rw (c.at.ensures, c.at-in-loop.ensures) in
    search (rules, sym c.loop.invariant.0 ∙ one_broken c.loop.list c.args.fields.now c.loop.i (c.args.k - c.loop.counter) (omega arith) (sym read ∙ c.in_err-o.was))

pub loop-preserved : goal.loop-preserved
loop-preserved c =
    let read : c.operand_from.result ≡ operand_from (get_or c.args.fields.now c.loop.i 0) (get_or c.args.fields.now (c.loop.i + 1) 0) = c.operand_from.ensures ∙ rw (c.at.ensures, c.at-in-loop.ensures) in
    (rw c.push-list.ensures (sym (one_more_lem _ _ _ _ _ c.in_ok-o.o c.loop-test.true (sym read ∙ c.in_ok-o.was)) ∙ c.loop.invariant.0), omega arith)

pub returns : goal.returns
unfolding operands_from
returns c = let z : c.args.k - c.loop.counter ≡ 0 = omega arith in rw z at c.loop.invariant.0
