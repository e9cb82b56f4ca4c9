-- `map_named` says whether the map has a place.
use mathlib.Core.Path.{sym, ◌∙◌, ap}
use Rattle.std.proofs.Common.{rules}
use Rattle.std.specs.Prelude.{Ok}
use Rattle.unitfile.proofs.NamePlace.{named_at, named_at_lem}
use Rattle.unitfile.proofs.map_named.Goals as goal

pub returns-in_err-map_place : goal.returns-in_err-map_place
returns-in_err-map_place c = search (rules, named_at_lem c.args.s.now _ c.args.map ∙ ap named_at (sym c.map_place.ensures ∙ c.in_err-map_place.was))

pub returns : goal.returns
returns c = ap Ok c.is_some.ensures ∙ sym (named_at_lem _ _ _ ∙ ap named_at (sym c.map_place.ensures ∙ c.in_ok-map_place.was))
