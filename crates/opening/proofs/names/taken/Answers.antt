use mathlib.Core.Path.{refl, sym, ◌∙◌}
use native.Mathlib.Nat.{add-sub_cancel_left}
use Rattle.opening.proofs.MapLaws.{taken_step}
use Rattle.opening.proofs.names.taken.Goals as goal

pub returns-then-eq : goal.returns-then-eq
returns-then-eq c =
    let h = simp add-sub_cancel_left at (sym c.eq.ensures ∙ c.if-eq.true) in
    sym (sym c.loop.invariant ∙ taken_step _ _ _ _ _ _ c.loop-test.true c.get_u16-len.ensures (sym c.whole.ensures ∙ c.if-not-whole.false) ∙ rw h refl)

pub loop-preserved : goal.loop-preserved
loop-preserved c =
    let h = simp add-sub_cancel_left at (sym c.eq.ensures ∙ c.if-eq.false) in
    sym (taken_step _ _ _ _ _ _ c.loop-test.true c.get_u16-len.ensures (sym c.whole.ensures ∙ c.if-not-whole.false) ∙ rw h refl) ∙ c.loop.invariant
