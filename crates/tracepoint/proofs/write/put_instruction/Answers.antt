-- `put_instruction` lets the lowering put the code, and puts the relocation.
use mathlib.Core.Path.{sym, ◌∙◌}
use mathlib.Core.List.{[]}
use Rattle.passes.specs.Places.{map_taken, ring_on}
use Rattle.passes.proofs.Payload.{tidy_payload, asked_is, ring_is}
use Rattle.passes.proofs.Put.{told_room, puts_told, puts_nothing}
use Rattle.tracepoint.proofs.write.put_instruction.Goals as goal

pub returns-in_default-clause-puts : goal.returns-in_default-clause-puts
returns-in_default-clause-puts c =
    let t = c.condition_of-condition in
    let l = c.lower_instruction in
    let o = c.byte_offset in
    λ xs. rw (← asked_is _ _ _ c.args.passed.scratch _ t.ensures) (puts_nothing xs _ 0 (tidy_payload _ _ _ _) (sym c.in_default.is ∙ l.ensures.value) (rw o.ensures at l.ensures.code_after))

pub returns-in_default-clause-scratch_value : goal.returns-in_default-clause-scratch_value
unfolding map_taken ring_on
returns-in_default-clause-scratch_value c =
    ring_is _ _ _ c.args.passed.scratch _ c.condition_of-condition.ensures (sym c.in_default.is ∙ c.lower_instruction.ensures.value)

pub put_relocation-requires : goal.put_relocation-requires
put_relocation-requires c =
    let t = c.condition_of-condition in
    told_room [] _ 0 (tidy_payload _ _ _ _) (sym c.in-Ok.is ∙ c.lower_instruction.ensures.value) (rw (← asked_is _ _ _ c.args.passed.scratch _ t.ensures) at c.requires)

pub returns-clause-puts : goal.returns-clause-puts
returns-clause-puts c =
    let t = c.condition_of-condition in
    let l = c.lower_instruction in
    let o = c.byte_offset in
    λ xs. rw (← asked_is _ _ _ c.args.passed.scratch _ t.ensures) (puts_told xs _ 0 (tidy_payload _ _ _ _) (sym c.in-Ok.is ∙ l.ensures.value) (rw (← asked_is _ _ _ c.args.passed.scratch _ t.ensures) at c.requires) (rw o.ensures at l.ensures.code_after) c.put_relocation.ensures)

pub returns-clause-scratch_value : goal.returns-clause-scratch_value
unfolding map_taken
returns-clause-scratch_value c =
    c.ring_after.ensures ∙ ring_is _ _ _ c.args.passed.scratch _ c.condition_of-condition.ensures (sym c.in-Ok.is ∙ c.lower_instruction.ensures.value)
