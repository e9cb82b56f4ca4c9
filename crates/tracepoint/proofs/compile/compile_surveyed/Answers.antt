-- `compile_surveyed` notes what the terminators tell and links the blocks; the lowering by these lists is that of the definitions.
use mathlib.Core.Path.{refl, sym}
use native.Mathlib.Omega.{arith}
use Rattle.survey.proofs.Bounds.{blocks_count}
use Rattle.survey.proofs.Sorted.{all_fits}
use Rattle.passes.proofs.Tables.{linked}
use Rattle.tracepoint.proofs.Compiling.{same_answers, tables_lowering}
use Rattle.tracepoint.proofs.compile.compile_surveyed.Goals as goal

pub note_blocks-requires : goal.note_blocks-requires
note_blocks-requires c =
    let same = blocks_count c.args.unit.now c.args.found c.requires.surveyed.read in record { unit_value = c.requires.surveyed.read; fits = (all_fits _ _ c.requires.surveyed.collects, c.requires.surveyed.endings, refl); blocks_in_bounds = (omega (arith, same, c.requires.spacious.endings), omega (arith, same, c.requires.spacious.counts), omega (arith, same, c.requires.spacious.named), omega (arith, same, c.requires.spacious.numbers)) }

pub invariant_of-context : goal.invariant_of-context
invariant_of-context c = record { few = (all_fits _ _ c.requires.surveyed.collects).few }

pub invariant_of-links : goal.invariant_of-links
invariant_of-links c =
    let same = blocks_count c.args.unit.now c.args.found c.requires.surveyed.read in
    record {
      read = c.requires.surveyed.read;
      ends = c.requires.surveyed.endings;
      linked = linked c.args.lists.now.emitted.now c.requires.surveyed c.requires.spacious c.note_blocks.ensures.noted c.note_blocks.ensures.noted_2 (sym same) c.link.ensures.targets_after c.link.ensures.emitted_after;
    }

pub compile_linked-requires : goal.compile_linked-requires
compile_linked-requires c = record { collects = c.requires.surveyed.collects; edges_size = omega (arith, blocks_count c.args.unit.now c.args.found c.requires.surveyed.read, c.requires.spacious.edges) }

pub returns : goal.returns
returns c =
    let same = blocks_count c.args.unit.now c.args.found c.requires.surveyed.read in
    same_answers (tables_lowering 56 _ c.requires.surveyed c.note_blocks.ensures.noted (linked c.args.lists.now.emitted.now c.requires.surveyed c.requires.spacious c.note_blocks.ensures.noted c.note_blocks.ensures.noted_2 (sym same) c.link.ensures.targets_after c.link.ensures.emitted_after)) c.compile_linked.ensures
