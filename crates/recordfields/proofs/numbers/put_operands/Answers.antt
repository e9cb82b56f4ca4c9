use mathlib.Core.Path.{sym, ◌∙◌}
use Prim.Native.Nat.{◌+◌}
use native.Mathlib.Omega.{arith}
use lib.ListN.{length-set}
use Rattle.operand.proofs.OperandBytes.{first_counted}
use Rattle.recordfields.specs.Fields.{tag_of, value_of}
use Rattle.recordfields.proofs.Pairs.{pair_length, pair_step, pair_end}
use Rattle.recordfields.proofs.numbers.put_operands.Goals as goal

pub bounds-fields-i-in-Some : goal.bounds-fields-i-in-Some
bounds-fields-i-in-Some c =
    let n = first_counted _ _ (sym c.first.ensures ∙ c.in-Some.is) in
    simp length-set (omega arith)

pub loop-o-preserved : goal.loop-o-preserved
loop-o-preserved c =
    let first_there = sym c.first.ensures ∙ c.in-Some.is in
    let n = first_counted _ _ first_there in
    let l = c.loop-o in
    let o = c.in-Some.o in
    let m = pair_length l.fields l.i (tag_of o) (l.i + 1) (value_of o) in
    rw (c.rest-left.ensures, c.tag.ensures, c.value.ensures) (omega arith, m ∙ l.invariant.1, pair_step l.left o l.fields l.i first_there ∙ l.invariant.2)

pub returns : goal.returns
returns c = let l = c.loop-o in pair_end l.left l.fields l.i (sym c.first.ensures ∙ c.in_default.is) ∙ l.invariant.2
