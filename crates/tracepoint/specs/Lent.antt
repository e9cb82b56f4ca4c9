-- What lowering is told, and the blocks of a linked unit, as the passes lend them to one another.
use Rattle.std.specs.Prelude.{List}
use Rattle.unitfile.specs.Unit.{BasicBlock, parse}
use Rattle.survey.specs.Surveyed.{blocks_of}
use Rattle.layout.specs.Layout as layout
use Rattle.passes.specs.Inner.{context_of}
use Rattle.tracepoint.specs.declared.context.Context.{Context}
use Rattle.tracepoint.specs.declared.links.Links.{Links}

abbrev pub context_in : Context → layout.Context
context_in c = context_of c.frame.variables.now c.frame.hints.now c.marks.now

abbrev pub blocks_in : Links → List BasicBlock
blocks_in l = blocks_of (parse l.unit.now)
