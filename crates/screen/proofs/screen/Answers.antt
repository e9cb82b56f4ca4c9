-- `screen` looks at the paths last.
use mathlib.Core.Path.{refl, sym, ap, ◌∙◌}
use Rattle.std.proofs.lemmas.Result.{err_from_is_err_and}
use Rattle.screen.specs.Parts.{so_far}
use Rattle.screen.proofs.Low.{apt}
use Rattle.screen.proofs.Pass.{ran}
use Rattle.screen.proofs.screen.Goals as goal

pub returns-in_err-before_paths : goal.returns-in_err-before_paths
unfolding so_far
returns-in_err-before_paths c =
    let p = err_from_is_err_and c.from_residual.result c.from_residual.ensures.1 in
    rw (sym c.before_paths.ensures ∙ ap so_far c.in_err-before_paths.was, p.1, p.2) (refl, refl)

pub by_table-requires : goal.by_table-requires
unfolding so_far
by_table-requires c =
    let q = c.analyse-ends in
    let A = apt _ _ _ (sym c.before_paths.ensures ∙ ap so_far c.in_ok-before_paths.was) in
    let P = ran c.args.code.now c.args.table.now q.new.table q.result A q.ensures in record { apt = rw P.0.same_length A; by_index = P.0.front; told = P.1 }

pub returns : goal.returns
unfolding so_far
returns c =
    let q = c.analyse-ends in
    let fine = sym c.before_paths.ensures ∙ ap so_far c.in_ok-before_paths.was in
    rw fine (c.by_table.ensures, (ran c.args.code.now c.args.table.now q.new.table q.result (apt _ _ _ fine) q.ensures).0)
