use Rattle.std.proofs.Common.{◌≡◌, ℕ, refl, sym, ◌∙◌}
use Rattle.shape.specs.Code.{slots}
use Rattle.shape.specs.Shapes.{or_else}
use Rattle.shape.proofs.Passes.{going_all, going_on, going_fault, going_end}
use Rattle.shape.proofs.instruction.first_fault.Goals as goal

pub loop-s-init : goal.loop-s-init
loop-s-init c = going_all _

pub returns-in-Err : goal.returns-in-Err
unfolding slots or_else
returns-in-Err c = let l = c.loop-s in
    going_fault _ l.s l.invariant c.loop-s-test.true _ (sym c.shape_at.ensures ∙ c.in-Err.is)

pub loop-s-preserved : goal.loop-s-preserved
unfolding slots
loop-s-preserved c = let l = c.loop-s in
    rw c.next-s.ensures (going_on _ l.s l.invariant c.loop-s-test.true (sym c.shape_at.ensures ∙ c.in-Ok.is))

pub returns : goal.returns
unfolding slots
returns c = going_end _ c.loop-s.s c.loop-s.invariant c.loop-s-test.false
