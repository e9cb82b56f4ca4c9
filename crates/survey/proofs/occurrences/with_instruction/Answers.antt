-- `with_instruction` takes the result, then the operands.
use Rattle.survey.specs.Inner.{of_instruction_in}
use Rattle.survey.proofs.Tallies.{then}
use Rattle.survey.proofs.occurrences.with_instruction.Goals as goal

pub with_operands-requires : goal.with_operands-requires
with_operands-requires c = record { holds = c.with_variable-counted.ensures.holds; place_bound = c.requires.place_bound }

pub returns : goal.returns
unfolding of_instruction_in
returns c =
    rw (← c.get_u32-result.ensures, ← c.get_u8-count.ensures) (then c.with_variable-counted.ensures c.with_operands.ensures)
