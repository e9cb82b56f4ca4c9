use Rattle.flow.proofs.Passes.{Numbered}
use Rattle.flow.proofs.blocks.Blocks.put_numbers.Given as goal

abbrev pub invariant-loop-target : goal.invariant-loop-target
invariant-loop-target l = Numbered l.self.ids.now l.initial.targets l.target-index l.targets
