-- HelperCall, by the helper.
use mathlib.Core.Path.{sym, ◌∙◌}
use mathlib.Core.Logic.{inl, inr}
use Rattle.size.proofs.Opcodes.{helper_none, helper_16, helper_three, helper_other}
use Rattle.size.proofs.helper_call.Goals as goal

pub returns-in-5 : goal.returns-in-5
returns-in-5 c = c.no_operands.ensures ∙ helper_none c.args.payload.now _ (rw (sym c.get_u32-id.ensures ∙ c.in-5.is))

pub returns-in-14 : goal.returns-in-14
returns-in-14 c = c.no_operands-in-14.ensures ∙ helper_none c.args.payload.now _ (rw (sym c.get_u32-id.ensures ∙ c.in-14.is))

pub returns-in-15 : goal.returns-in-15
returns-in-15 c = c.no_operands-in-15.ensures ∙ helper_none c.args.payload.now _ (rw (sym c.get_u32-id.ensures ∙ c.in-15.is))

pub returns-in-35 : goal.returns-in-35
returns-in-35 c = c.no_operands-in-35.ensures ∙ helper_none c.args.payload.now _ (rw (sym c.get_u32-id.ensures ∙ c.in-35.is))

pub returns-in-16 : goal.returns-in-16
returns-in-16 c = helper_16 c.args.payload.now _ (sym c.get_u32-id.ensures ∙ c.in-16.is)

pub returns-in-114 : goal.returns-in-114
returns-in-114 c = c.three_operands.ensures ∙ helper_three c.args.payload.now _ (inl (sym c.get_u32-id.ensures ∙ c.in-114.is))

pub returns-in-115 : goal.returns-in-115
returns-in-115 c = c.three_operands-in-115.ensures ∙ helper_three c.args.payload.now _ (inr (sym c.get_u32-id.ensures ∙ c.in-115.is))

pub returns-in_default : goal.returns-in_default
returns-in_default c =
    rw (← c.get_u32-id.ensures) (helper_other c.args.payload.now c.get_u32-id.result c.in_default.in_default-own.rest.0.0.0.0.0.0.1 c.in_default.in_default-own.rest.0.0.0.0.0.1 c.in_default.in_default-own.rest.0.0.0.0.1 c.in_default.in_default-own.rest.0.0.0.1 c.in_default.in_default-own.rest.0.0.1 c.in_default.in_default-own.rest.0.1 c.in_default.in_default-own.rest.1)
