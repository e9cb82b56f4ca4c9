-- `one_block` passes the block's first record, and then the rest.
use mathlib.Core.Path.{sym, ◌∙◌}
use Rattle.std.proofs.Common.{rules}
use Rattle.unitfile.specs.Inner.{on_end}
use Rattle.unitfile.proofs.Passing.{block_opened, block_refused}
use Rattle.unitfile.proofs.walk.one_block.Goals as goal

pub returns-in_err-next : goal.returns-in_err-next
unfolding on_end
returns-in_err-next c = λ found blocks. search (rules, block_refused found _ _ _ blocks _ (sym (c.check_block.ensures c.args.maps) ∙ c.in_err-next.was))

pub returns : goal.returns
returns c = λ found blocks. block_opened found _ _ _ blocks _ _ (sym (c.check_block.ensures c.args.maps) ∙ c.in_ok-next.was) ∙ c.rest_of_block.ensures found blocks
