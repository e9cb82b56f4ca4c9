-- `store` checks the size.
use Rattle.lower.specs.Instruction.{sized, mem}
use Rattle.lower.specs.Step.{ops_in, words, word_is}
use Rattle.lower.proofs.piece.store.Goals as goal

pub returns-in-Some : goal.returns-in-Some
unfolding word_is words ops_in sized mem
returns-in-Some c = rw (c.word.ensures, ← c.stx_mem.ensures, c.in-Some.is)

pub returns-in-None : goal.returns-in-None
unfolding word_is sized
returns-in-None c = rw (← c.stx_mem.ensures, c.in-None.is)
