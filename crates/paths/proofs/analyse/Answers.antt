-- `analyse` runs where the sizes fit, and else leaves the table as it is.
use mathlib.Core.Logic.{⊎_elim}
use Prim.Native.Nat.{◌-◌, ◌/◌}
use native.Mathlib.Omega.{arith}
use lib.ListN.{length}
use lib.Seq.{length-take-le}
use Rattle.shape.specs.Code.{slots}
use Rattle.paths.proofs.Runs.{no_slot, too_many_lem, too_short, ran}
use Rattle.paths.proofs.analyse.Goals as goal

pub returns-then-n-eq0 : goal.returns-then-n-eq0
returns-then-n-eq0 c =
    let b = c.args.code.now in
    let t = c.args.table.now in
    ⊎_elim (λ e. no_slot b t e) (λ o. ⊎_elim (λ p. too_many_lem b t p.1) (λ p. too_short b t (omega arith) p.1 p.2) o) c.then-n-eq0.either

pub returns : goal.returns
returns c =
    let q = c.solve in
    ran c.args.code.now c.args.table.now (length c.args.code.now / 8) q.new.t q.result (omega arith) (omega arith) (omega arith) (omega arith) q.ensures
