-- `index` looks among the first n.
use mathlib.Core.Path.{◌≡◌, ap, ◌∙◌}
use Prim.Native.Nat.{ℕ, ◌-◌}
use native.Mathlib.Omega.{arith}
use lib.ListN.{take}
use Rattle.frame.specs.Hint.{index_by}
use Rattle.survey.proofs.occurrences.index.Goals as goal

pub returns : goal.returns
returns c =
    let n = c.args.n in
    let same : n - 0 ≡ n = omega arith in
    c.index.ensures ∙ ap (λ (k : ℕ). index_by (take k c.args.variables.now) c.args.hints.now c.args.v) same
