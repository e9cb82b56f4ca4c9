use Rattle.std.proofs.Common.{rules}
use Rattle.frame.proofs.Search.{first_index}
use Rattle.frame.proofs.hint.find.Goals as goal

pub returns : goal.returns
returns c = first_index c.args.v c.args.variables.now c.unwrap_or.result (search rules) (search rules) (search rules)
