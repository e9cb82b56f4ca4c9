-- `no_operands` takes none.
use borrow.Author.Tests.{eq-eqb, ne_eqb}
use Rattle.size.specs.Part.{takes, of_none}
use Rattle.size.proofs.no_operands.Goals as goal

pub returns-then-n-ne0 : goal.returns-then-n-ne0
unfolding of_none
returns-then-n-ne0 c = simp (← c.get_u8-n.ensures, ne_eqb _ 0 c.if-n-ne0.true)

pub returns : goal.returns
unfolding of_none takes
returns c = simp (← c.get_u8-n.ensures, eq-eqb _ 0 c.if-n-ne0.false)
