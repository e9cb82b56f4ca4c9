-- What `emit` tells and what it puts.
use Rattle.lower.proofs.lower_instruction.Goals as goal

pub returns : goal.returns
returns c = record { value = c.emit.ensures.answer; code_after = c.emit.ensures.code }
