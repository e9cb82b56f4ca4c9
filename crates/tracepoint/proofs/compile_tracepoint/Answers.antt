-- `compile_tracepoint`: the count in the head tells which tables hold the blocks.
use native.Mathlib.Omega.{arith}
use Rattle.survey.proofs.Bounds.{few_blocks}
use Rattle.passes.proofs.Heads.{blocks_most}
use Rattle.passes.proofs.Tables.{spacious}
use Rattle.tracepoint.proofs.compile_tracepoint.Goals as goal

pub compile_with-requires : goal.compile_with-requires
compile_with-requires c = record { spacious = spacious _ 1 (blocks_most c.args.unit.now 1 (omega (arith, c.get_u32-blocks.ensures, c.if-blocks-le1.true))) (omega arith); few_targets = omega arith; few_edges = omega arith }

pub compile_with-requires-then-blocks-le16 : goal.compile_with-requires-then-blocks-le16
compile_with-requires-then-blocks-le16 c = record { spacious = spacious _ 16 (blocks_most c.args.unit.now 16 (omega (arith, c.get_u32-blocks.ensures, c.if-blocks-le16.true))) (omega arith); few_targets = omega arith; few_edges = omega arith }

pub compile_with-requires-2 : goal.compile_with-requires-2
compile_with-requires-2 c = record { spacious = spacious _ 1024 (few_blocks c.args.unit.now) (omega arith); few_targets = omega arith; few_edges = omega arith }
