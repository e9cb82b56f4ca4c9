use Rattle.paths.proofs.Steps.{settled}
use Rattle.paths.proofs.work.run.Goals as goal

pub returns : goal.returns
returns c = let l = c.loop-work in settled c.args.code.now l.t l.work l.invariant.1 c.loop-work-test.false
