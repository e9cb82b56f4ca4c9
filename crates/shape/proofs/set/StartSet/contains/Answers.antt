-- `contains` reads the bit.
use borrow.Author.Tests.{lt-ltb}
use Rattle.wire.specs.Bit.{bit}
use Rattle.shape.specs.Code.{slots}
use Rattle.shape.specs.Set.{member}
use Rattle.shape.proofs.set.StartSet.contains.Goals as goal

pub returns-then-slot-self : goal.returns-then-slot-self
unfolding slots member bit
returns-then-slot-self c = simp (lt-ltb _ _ c.if-slot-self.true) (c.args.self.now.exact.at c.args.slot c.if-slot-self.true)
