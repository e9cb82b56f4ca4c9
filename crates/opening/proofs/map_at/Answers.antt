-- `map_at` checks a map's record, whose name lies in the unit.
use Rattle.std.proofs.Common.{rules}
use native.Mathlib.Omega.{arith}
use mathlib.Core.Path.{sym, ◌∙◌}
use Rattle.opening.specs.Inner.{Lies}
use Rattle.opening.proofs.MapLaws.{map_checked, map_refused}
use Rattle.opening.proofs.map_at.Goals as goal

pub returns-in_err-next : goal.returns-in_err-next
unfolding Lies
returns-in_err-next c = search (rules, map_refused _ _ _ (sym (c.check_map.ensures 0) ∙ c.in_err-next.was))

pub overflow_add-start : goal.overflow_add-start
overflow_add-start c = let m = map_checked _ _ _ _ (sym (c.check_map.ensures 0) ∙ c.in_ok-next.was) in omega arith

pub overflow_sub-result : goal.overflow_sub-result
overflow_sub-result c = let m = map_checked _ _ _ _ (sym (c.check_map.ensures 0) ∙ c.in_ok-next.was) in omega arith

pub returns : goal.returns
unfolding Lies
returns c = let m = map_checked _ _ _ _ (sym (c.check_map.ensures 0) ∙ c.in_ok-next.was) in (sym m.map, omega arith)
