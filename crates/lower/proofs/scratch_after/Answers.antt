-- The ring moves on at the operands whose address is taken.
use mathlib.Core.Path.{refl, sym, ◌∙◌}
use Rattle.record.specs.Instruction.{fields_in}
use Rattle.lower.specs.Instruction.{scratch_by}
use Rattle.lower.specs.Payload.{scratch_in}
use Rattle.lower.proofs.Codes.{is_call_map, is_update_map, stays, moved}
use Rattle.lower.proofs.scratch_after.Goals as goal

pub returns-in-9 : goal.returns-in-9
unfolding scratch_by fields_in
returns-in-9 c =
    c.after_first.ensures ∙ moved c.args.payload.now (is_call_map (fields_in c.args.payload.now 0) c.get_u8.ensures c.in-9.is) refl c.args.j

pub returns-in-10 : goal.returns-in-10
unfolding scratch_by fields_in
returns-in-10 c =
    c.after_two.ensures ∙ moved c.args.payload.now (is_update_map (fields_in c.args.payload.now 0) c.get_u8.ensures c.in-10.is) refl c.args.j

pub returns-in_default : goal.returns-in_default
unfolding scratch_in fields_in
returns-in_default c =
    sym (stays (fields_in c.args.payload.now 0) c.get_u8.ensures c.args.j _ c.in_default.in_default-own.rest.0.1 c.in_default.in_default-own.rest.1)
