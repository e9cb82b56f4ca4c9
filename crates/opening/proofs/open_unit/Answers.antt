-- `open_unit` reads the head and then its maps, if there are any.
use mathlib.Core.Path.{sym, ap, ◌∙◌}
use Rattle.std.proofs.Common.{rules}
use Rattle.opening.specs.Places.{body_of}
use Rattle.opening.proofs.Heads.{open_head, body_of_none, body_until, body_refused}
use Rattle.opening.proofs.open_unit.Goals as goal

pub returns-then-head-eq0 : goal.returns-then-head-eq0
returns-then-head-eq0 c = sym (ap body_of (open_head _ _ _ (sym c.head_at.ensures ∙ c.in_ok-head.was)) ∙ body_of_none _ _ _ c.if-head-eq0.true)

pub returns-in_err-at : goal.returns-in_err-at
returns-in_err-at c = search (rules, ap body_of (open_head _ _ _ (sym c.head_at.ensures ∙ c.in_ok-head.was)) ∙ body_refused _ _ _ (sym c.read_maps.ensures ∙ c.in_err-at.was))

pub returns : goal.returns
returns c = sym (ap body_of (open_head _ _ _ (sym c.head_at.ensures ∙ c.in_ok-head.was)) ∙ body_until _ _ _ (sym c.read_maps.ensures ∙ c.in_ok-at.was))
