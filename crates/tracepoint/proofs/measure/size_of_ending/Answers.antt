-- `size_of_ending` takes a terminator's slots from its form.
use mathlib.Core.Path.{sym, ◌∙◌}
use Rattle.passes.proofs.Sizing.{return_sized, jump_sized, branch_sized}
use Rattle.tracepoint.proofs.measure.size_of_ending.Goals as goal

pub returns-then-form-eq0 : goal.returns-then-form-eq0
returns-then-form-eq0 c =
    return_sized c.args.place c.args.payload.now (sym c.get_u8-form.ensures ∙ c.if-form-eq0.true) (rw c.operand_in.ensures at c.size_of_loading.ensures)

pub returns-then-form-eq1 : goal.returns-then-form-eq1
returns-then-form-eq1 c =
    jump_sized c.args.place c.args.payload.now (sym c.get_u8-form.ensures ∙ c.if-form-eq1.true)

pub returns : goal.returns
returns c =
    let g = c.get_u8-form.ensures in
    branch_sized c.args.place c.args.payload.now (λ h. c.if-form-eq0.false (g ∙ h)) (λ h. c.if-form-eq1.false (g ∙ h)) (rw c.operand_in-2.ensures at c.size_of_loading-2.ensures)
