-- the words so far are put
use Rattle.std.proofs.Common.{take}
use Rattle.lower.proofs.Words.{Filled}
use Rattle.lower.proofs.list.words.Given as goal

abbrev pub invariant-loop-k : goal.invariant-loop-k
invariant-loop-k g l = Filled l.initial.code l.at (take l.k l.fn.given) l.code l.k
