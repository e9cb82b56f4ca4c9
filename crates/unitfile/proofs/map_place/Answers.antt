-- `map_place` finds the map's record, once the whole unit was read.
use mathlib.Core.Path.{sym, ◌∙◌}
use Rattle.std.proofs.Common.{rules}
use Rattle.unitfile.proofs.Whole.{whole, head_there, name_from, name_there}
use Rattle.unitfile.proofs.NamePlace.{place_at, place_none, place_refused}
use Rattle.unitfile.proofs.map_place.Goals as goal

pub returns-in_err-found : goal.returns-in_err-found
returns-in_err-found c = search (rules, place_refused c.args.s.now c.args.map _ (sym c.read_unit.ensures ∙ c.in_err-found.was))

pub returns-in_err-first : goal.returns-in_err-first
returns-in_err-first c = let w = whole _ _ (sym c.read_unit.ensures ∙ c.in_ok-found.was) in
    absurd (head_there _ _ w _ (sym c.head_at.ensures ∙ c.in_err-first.was))

pub returns-in_err-place : goal.returns-in_err-place
returns-in_err-place c = let w = whole _ _ (sym c.read_unit.ensures ∙ c.in_ok-found.was) in
    let n = name_from _ _ w _ _ _ (sym c.head_at.ensures ∙ c.in_ok-first.was) c.if-map-found.true in
    absurd (name_there n _ (sym c.map_from.ensures ∙ c.in_err-place.was))

pub returns-then-map-found : goal.returns-then-map-found
returns-then-map-found c = let w = whole _ _ (sym c.read_unit.ensures ∙ c.in_ok-found.was) in
    sym (place_at _ _ w _ _ _ (sym c.head_at.ensures ∙ c.in_ok-first.was) c.if-map-found.true _ _ _ (sym c.map_from.ensures ∙ c.in_ok-place.was))

pub returns : goal.returns
returns c = let w = whole _ _ (sym c.read_unit.ensures ∙ c.in_ok-found.was) in
    sym (place_none _ _ w _ c.if-map-found.false)
