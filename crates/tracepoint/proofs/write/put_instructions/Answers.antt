use mathlib.Core.Path.{ap}
use Prim.Native.Nat.{ℕ, ◌+◌}
use native.Mathlib.Omega.{arith}
use Rattle.record.specs.Frame.{next_at}
use Rattle.passes.proofs.Payload.{payload_whole}
use Rattle.passes.proofs.Writing.{room_instruction, on_instruction, instructions_done, ring_done}
use Rattle.tracepoint.proofs.write.put_instructions.Goals as goal

pub put_instruction-passed-requires : goal.put_instruction-passed-requires
put_instruction-passed-requires c = rw (payload_whole _ _) (room_instruction c.loop-at.invariant.0 c.loop-at-test.true)

pub loop-at-preserved : goal.loop-at-preserved
unfolding next_at
loop-at-preserved c =
    (on_instruction c.loop-at.invariant.0 c.loop-at-test.true (λ xs. rw (payload_whole _ _) at (c.put_instruction-passed.ensures.puts xs)) (rw (payload_whole _ _) at c.put_instruction-passed.ensures.scratch_value) (ap (λ (n : ℕ). c.loop-at.at + 4 + n) c.get_u16.ensures), omega arith, omega arith)

pub returns : goal.returns
returns c = record { puts = instructions_done c.loop-at.invariant.0 c.loop-at-test.false; scratch_value = ring_done c.loop-at.invariant.0 c.loop-at-test.false }
