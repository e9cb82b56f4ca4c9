-- `put_decimal` puts its digits, which are the decimal digits of the number.
use mathlib.Core.Path.{◌≡◌}
use native.Mathlib.Omega.{arith}
use lib.ListN.{length-set, take}
use Rattle.std.proofs.lemmas.Grind.{common_steps}
use Rattle.text.specs.Digits.{decimal}
use Rattle.text.proofs.Decimals.{Last, last, all_there}
use Rattle.text.proofs.pieces.put_decimal.Goals as goal

pub loop-i-preserved : goal.loop-i-preserved
loop-i-preserved c =
    let l = c.loop-i in
    let digit : Last l.left l.i (decimal c.args.n) = last l.left l.i (decimal c.args.n) (omega arith) c.loop-i-test.true (omega (arith, c.digits-count.ensures.0)) (l.invariant.before c.loop-i-test.true) in
    record { same_length = simp length-set l.invariant.same_length; small = omega arith; stands = λ k a b. grind (arith, common_steps, digit.digit, l.invariant.stands k); before = digit.before }

pub returns : goal.returns
returns c =
    let e : take c.digits-count.result c.loop-i.text ≡ decimal c.args.n = all_there c.loop-i.text (decimal c.args.n) c.digits-count.result c.digits-count.ensures.0 (omega arith) (λ k a b. c.loop-i.invariant.stands k (omega arith) b) in
    record { value = rw e at c.put_word.ensures.value; out_after = rw e at c.put_word.ensures.out_after }
