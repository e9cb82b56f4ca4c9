-- `before_paths` tests the length, the room and the shapes in turn.
use mathlib.Core.Path.{sym, ◌∙◌}
use native.Mathlib.Omega.{arith}
use borrow.Author.Tests.{le-leb, lt-leb}
use Rattle.std.proofs.lemmas.Result.{err_from_is_err_and}
use Rattle.shape.specs.Code.{slots}
use Rattle.shape.proofs.Lengths.{length_slots}
use Rattle.screen.specs.Parts.{so_far}
use Rattle.screen.specs.Verdict.{before_paths, of_shapes}
use Rattle.screen.proofs.before_paths.Goals as goal

pub returns-then-not-length_ok : goal.returns-then-not-length_ok
unfolding so_far before_paths
returns-then-not-length_ok c = simp (← c.length_ok.ensures, c.if-not-length_ok.true)

pub overflow_cast-result : goal.overflow_cast-result
unfolding slots
overflow_cast-result c = omega (arith, length_slots c.args.code.now (sym c.length_ok.ensures ∙ c.if-not-length_ok.false))

pub returns-then-entries-n : goal.returns-then-entries-n
unfolding slots so_far before_paths
returns-then-entries-n c = simp (← c.length_ok.ensures, c.if-not-length_ok.false, lt-leb _ _ c.if-entries-n.true)

pub returns-in_err-judge : goal.returns-in_err-judge
unfolding slots so_far before_paths of_shapes
returns-in_err-judge c =
    let p = err_from_is_err_and c.from_residual.result c.from_residual.ensures.1 in
    simp (p.1, p.2, ← c.length_ok.ensures, c.if-not-length_ok.false, le-leb _ _ c.if-entries-n.false, ← c.judge.ensures, c.in_err-judge.was)

pub returns : goal.returns
unfolding slots so_far before_paths of_shapes
returns c = simp (← c.length_ok.ensures, c.if-not-length_ok.false, le-leb _ _ c.if-entries-n.false, ← c.judge.ensures, c.in_ok-judge.was)
