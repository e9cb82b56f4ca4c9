use Rattle.std.proofs.Common.{arith, sym, ◌∙◌, add-one}
use Rattle.frame.specs.Hint.{hints_of}
use Rattle.frame.proofs.Hints.{put, all_put}
use Rattle.frame.proofs.hint.put_hints.Goals as goal

pub loop-k-preserved : goal.loop-k-preserved
loop-k-preserved c =
    let l = c.loop-k in
    rw add-one (sym (put c.args.variables.now l.k l.hints (omega arith)) ∙ l.invariant)

pub returns : goal.returns
unfolding hints_of
returns c =
    let l = c.loop-k in
    sym (all_put c.args.variables.now l.k l.hints (omega arith)) ∙ l.invariant
