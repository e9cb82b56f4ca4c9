-- `words` puts words, one after the other.
use native.Mathlib.Omega.{arith}
use Rattle.lower.proofs.Words.{start, put_next, all_put}
use Rattle.lower.proofs.list.words.Goals as goal

pub loop-k-init : goal.loop-k-init
loop-k-init g c = start c.args.code.now c.args.at

pub loop-k-preserved : goal.loop-k-preserved
loop-k-preserved g c = put_next c.args.given c.loop-k.invariant (omega arith) c.put_slot.ensures

pub returns : goal.returns
returns g c = all_put c.args.given c.loop-k.invariant g.row.N (omega arith) c.loop-k-test.false c.loop-k.auto.k-end
