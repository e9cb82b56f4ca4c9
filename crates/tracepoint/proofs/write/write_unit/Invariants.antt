-- `write_unit` goes over the blocks; what is left of them always leads to the same code and relocations.
use mathlib.Core.Path.{◌≡◌}
use lib.ListN.{length}
use Rattle.unitfile.specs.Unit.{parse}
use Rattle.survey.specs.Surveyed.{blocks_of}
use Rattle.layout.specs.Layout.{blocks, ops}
use Rattle.layout.specs.Jumps.{starts}
use Rattle.layout.specs.Inner.{keep_by}
use Rattle.jumps.specs.Landed.{marked}
use Rattle.tracepoint.specs.Lent.{context_in}
use Rattle.passes.proofs.Writing.{Left}
use Rattle.tracepoint.proofs.write.write_unit.Given as goal

abbrev pub invariant-loop-k : goal.invariant-loop-k
invariant-loop-k l =
    Left l.links.unit.now l.links.endings.now (context_in l.context) (marked l.links.emitted.now) (starts (context_in l.context) (keep_by (marked l.links.emitted.now) 0 (blocks_of (parse l.links.unit.now)))) l.edges l.links.numbers.now (ops (blocks (context_in l.context) 0 (keep_by (marked l.links.emitted.now) 0 (blocks_of (parse l.links.unit.now))))) l.initial.code l.initial.relocs
    l.n l.k l.at l.passed.scratch l.passed.front.slot.0 l.passed.front.relocs l.code l.relocs
    × (length l.code ≡ length l.initial.code) × (length l.relocs ≡ length l.initial.relocs)
