use mathlib.Core.Path.{◌∙◌}
use native.Mathlib.Omega.{arith}
use Rattle.unitfile.proofs.Units.{unit_of}
use Rattle.passes.proofs.Closings.{closings_at_lem}
use Rattle.passes.proofs.Noting.{note_lengths, on_block, at_end}
use Rattle.tracepoint.proofs.context.note_blocks.Goals as goal

pub note-requires : goal.note-requires
note-requires c =
    let l = c.loop-k.invariant in
    (c.requires.fits.0.few, omega (arith, (unit_of _ _ c.requires.unit_value).few_blocks), omega (arith, l.2, c.requires.blocks_in_bounds.1), omega (arith, l.3, c.requires.blocks_in_bounds.2), omega (arith, l.4, c.requires.blocks_in_bounds.3))

pub loop-k-preserved : goal.loop-k-preserved
loop-k-preserved c =
    let l = c.loop-k.invariant in
    let k = c.loop-k-test.true in
    let t = rw c.terminator_in-t.ensures at c.note.ensures.notes in
    let u = rw c.terminator_in-t.ensures at c.note.ensures.notes_2 in
    (on_block l.0 k t, on_block l.1 k u, (note_lengths t).0 ∙ l.2, (note_lengths t).1 ∙ l.3, (note_lengths u).1 ∙ l.4)

pub returns : goal.returns
returns c =
    let l = c.loop-k.invariant in
    let are = closings_at_lem _ c.args.found _ c.requires.unit_value c.requires.fits.1 in record { noted = at_end l.0 (omega arith) are c.requires.fits.0 c.requires.fits.2; noted_2 = at_end l.1 (omega arith) are c.requires.fits.0 c.requires.fits.2 }
