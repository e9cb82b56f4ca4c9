-- `register` is the mask of one register, or of none where there is no such register.
use mathlib.Core.Path.{◌∙◌}
use native.Mathlib.Omega.{arith}
use Rattle.wire.proofs.Bits.{shl_one}
use Rattle.paths.proofs.Masks.{only_here, only_far}
use Rattle.paths.proofs.node.register.Goals as goal

pub returns-then-x-lt11 : goal.returns-then-x-lt11
returns-then-x-lt11 c = let x = c.args.x in shl_one x 16 (omega arith) ∙ only_here x c.if-x-lt11.true

pub returns-else-x-lt11 : goal.returns-else-x-lt11
returns-else-x-lt11 c = only_far c.args.x c.if-x-lt11.false
