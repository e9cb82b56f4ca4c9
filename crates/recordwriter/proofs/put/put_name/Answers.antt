use mathlib.Core.Path.{◌∙◌}
use native.Mathlib.Omega.{arith}
use lib.ListN.{length-set}
use Rattle.recordwriter.proofs.Pieces.{byte_step, byte_end}
use Rattle.recordwriter.proofs.put.put_name.Goals as goal

pub loop-k-preserved : goal.loop-k-preserved
loop-k-preserved c =
    let l = c.loop-k in
    (simp length-set l.invariant.0, byte_step l.b c.args.names.now c.args.at c.args.start c.args.len l.k c.loop-k-test.true (omega arith) (omega arith) ∙ l.invariant.1)

pub returns : goal.returns
returns c =
    let l = c.loop-k in
    byte_end l.b c.args.names.now c.args.at c.args.start c.args.len l.k (omega arith) ∙ l.invariant.1
