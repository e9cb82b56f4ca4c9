use mathlib.Core.Path.{sym, ◌∙◌}
use Rattle.shape.specs.Code.{slots}
use Rattle.shape.proofs.Relocs.{left_all, left_narrow, left_wide, left_differs, left_end, left_over}
use Rattle.shape.proofs.pairs.compared.Goals as goal

pub loop-s-init : goal.loop-s-init
loop-s-init c = left_all _ _

pub returns-in_default : goal.returns-in_default
unfolding slots
returns-in_default c = let l = c.loop-s in
    c.in_default.is ∙ left_differs _ _ l.s l.k l.invariant _ c.loop-s-test.true (sym c.is_wide.ensures ∙ c.if-is_wide.true) (sym c.pair_at-pair.ensures ∙ c.in_default.is)

pub loop-s-preserved-then-is_wide : goal.loop-s-preserved-then-is_wide
unfolding slots
loop-s-preserved-then-is_wide c = let l = c.loop-s in
    left_wide _ _ l.s l.k l.invariant c.loop-s-test.true (sym c.is_wide.ensures ∙ c.if-is_wide.true) (sym c.pair_at-pair.ensures ∙ c.in-Ok.is)

pub loop-s-preserved : goal.loop-s-preserved
unfolding slots
loop-s-preserved c = let l = c.loop-s in
    left_narrow _ _ l.s l.k l.invariant c.loop-s-test.true (sym c.is_wide.ensures ∙ c.if-is_wide.false)

pub returns-then-k-relocs : goal.returns-then-k-relocs
unfolding slots
returns-then-k-relocs c = let l = c.loop-s in
    left_over _ _ l.s l.k l.invariant c.loop-s-test.false c.if-k-relocs.true

pub returns : goal.returns
unfolding slots
returns c = let l = c.loop-s in
    left_end _ _ l.s l.k l.invariant c.loop-s-test.false c.if-k-relocs.false
