-- What a `?` hands on: the callee's refusal.
use mathlib.Core.Path.{◌≡◌, ap, ◌∙◌}
use Rattle.std.specs.Prelude.{Err, Result, IsErrAnd}
use Rattle.std.proofs.lemmas.Result.{err_from_is_err_and}

pub handed_on : {T E : Type 0} {r : Result T E} {d : E} → IsErrAnd r (λ e. e ≡ d) → r ≡ Err d
handed_on {r = r} h = let p = err_from_is_err_and r h in p.1 ∙ ap Err p.2
