-- HelperCall.
use mathlib.Core.Path.{refl, sym, ◌∙◌}
use Rattle.frame.specs.Lent.{frame_in}
use Rattle.lower.specs.Payload.{operands_of}
use Rattle.lower.proofs.Counts.{none_are, some_are, three_are, not_three}
use Rattle.lower.proofs.Compose.{along, none_put}
use Rattle.lower.proofs.Pieces.{none_small, three_small, helper_none, helper_16, helper_three, helper_other}
use Rattle.lower.proofs.instruction.helper_call.Goals as goal

pub returns-then-n-ne0 : goal.returns-then-n-ne0
unfolding operands_of
returns-then-n-ne0 c =
    let f = frame_in c.args.frame in
    rw (← c.count_in-n.ensures)
    (none_put (some_are c.args.payload.now 16 c.count_in-n.result _ c.if-n-ne0.true ∙ helper_none f _ c.args.id _ c.takes_none.ensures c.if-takes_none.true))

pub call_none-requires : goal.call_none-requires
call_none-requires c =
    none_small c.args.id (sym c.takes_none.ensures ∙ c.if-takes_none.true)

pub returns-then-takes_none : goal.returns-then-takes_none
unfolding operands_of
returns-then-takes_none c =
    let f = frame_in c.args.frame in
    rw (← c.count_in-n.ensures, ← c.result_in.ensures)
    (along (none_are c.args.payload.now 16 c.count_in-n.result _ c.if-n-ne0.false ∙ helper_none f _ c.args.id _ c.takes_none.ensures c.if-takes_none.true) c.call_none.ensures)

pub returns-then-id-eq16 : goal.returns-then-id-eq16
unfolding operands_of
returns-then-id-eq16 c =
    let f = frame_in c.args.frame in
    rw (← c.count_in-n.ensures)
    (none_put (helper_16 f _ c.args.id _ c.takes_none.ensures c.if-takes_none.false c.if-id-eq16.true))

pub returns-then-n-ne3 : goal.returns-then-n-ne3
unfolding operands_of
returns-then-n-ne3 c =
    let f = frame_in c.args.frame in
    rw (← c.count_in-n.ensures)
    (none_put (not_three c.args.payload.now 16 c.count_in-n.result _ c.if-n-ne3.true ∙ helper_three f _ c.args.id _ c.takes_none.ensures c.if-takes_none.false c.if-id-eq16.false c.takes_three.ensures c.if-takes_three.true))

pub call_three-requires : goal.call_three-requires
call_three-requires c =
    three_small c.args.id (sym c.takes_three.ensures ∙ c.if-takes_three.true)

pub returns-then-takes_three : goal.returns-then-takes_three
unfolding operands_of
returns-then-takes_three c =
    let f = frame_in c.args.frame in
    rw (← c.count_in-n.ensures)
    (along (three_are c.args.payload.now 16 c.count_in-n.result _ refl refl refl c.if-n-ne3.false ∙ helper_three f _ c.args.id _ c.takes_none.ensures c.if-takes_none.false c.if-id-eq16.false c.takes_three.ensures c.if-takes_three.true) c.call_three.ensures)

pub returns : goal.returns
unfolding operands_of
returns c =
    let f = frame_in c.args.frame in
    rw (← c.count_in-n.ensures)
    (none_put (helper_other f _ c.args.id _ c.takes_none.ensures c.if-takes_none.false c.if-id-eq16.false c.takes_three.ensures c.if-takes_three.false))
