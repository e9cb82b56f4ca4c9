-- A name is among the earlier ones exactly if it is among those of its signature.
use mathlib.Core.Path.{refl, sym, ◌∙◌}
use native.Mathlib.Nat.{add-sub_cancel_left}
use Rattle.opening.specs.Inner.{one_more}
use Rattle.opening.proofs.SignedNames.{by_signature}
use Rattle.opening.proofs.names.one_more.Goals as goal

pub returns-clause-value : goal.returns-clause-value
unfolding one_more
returns-clause-value c =
    let m = sym c.map_at.ensures.0 ∙ c.in_ok-map.was in
    let t = simp add-sub_cancel_left at (by_signature c.requires.signed _ _ _ _ c.signature-signature.ensures c.repeated-again.ensures c.if-again.false) in
    rw (m, t) refl
