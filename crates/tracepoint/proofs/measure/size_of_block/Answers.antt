-- `size_of_block` takes what its instructions and then its terminator take, and nothing of a block that is not emitted.
use native.Mathlib.Omega.{arith}
use Rattle.passes.proofs.Payload.{payload_whole}
use Rattle.passes.proofs.Sizing.{some_row, some_inside, silent_sized, row_refused, end_refused, block_sized}
use Rattle.tracepoint.proofs.measure.size_of_block.Goals as goal

pub size_of_instructions-requires : goal.size_of_instructions-requires
size_of_instructions-requires c = let i = some_inside c.requires.some_block in record { row = some_row c.requires.some_block; within = (omega arith, c.requires.short) }

pub returns-in-Err : goal.returns-in-Err
returns-in-Err c = rw c.if-emits.true (record { each = λ k w. row_refused k w c.size_of_instructions.ensures c.in-Err.is })

pub returns-in-Err-size_of_ending : goal.returns-in-Err-size_of_ending
returns-in-Err-size_of_ending c =
    rw c.if-emits.true
    (record { each = λ k w. end_refused k w c.size_of_instructions.ensures (rw (payload_whole _ _) at c.size_of_ending.ensures) c.in-Ok.is c.in-Err-size_of_ending.is })

pub returns-in-Ok-size_of_ending : goal.returns-in-Ok-size_of_ending
returns-in-Ok-size_of_ending c =
    rw c.if-emits.true
    (record { each = λ k w. block_sized k w c.size_of_instructions.ensures (rw (payload_whole _ _) at c.size_of_ending.ensures) c.in-Ok.is c.in-Ok-size_of_ending.is })

pub returns : goal.returns
returns c = rw c.if-emits.false (record { each = λ k w. silent_sized k w })
