-- `write_roomed`: what is known of the unit's size decides the room, and `write_unit` does the rest.
use Rattle.tracepoint.proofs.Compiling.{no_code_room, no_reloc_room, room, written}
use Rattle.tracepoint.proofs.compile.write_roomed.Goals as goal

pub returns-then-code-bytes : goal.returns-then-code-bytes
returns-then-code-bytes c =
    let e = c.byte_offset-bytes.ensures in
    rw e (no_code_room _ _ _ c.requires _ _ (rw e at c.if-code-bytes.true))

pub returns-then-relocs-pairs : goal.returns-then-relocs-pairs
returns-then-relocs-pairs c = no_reloc_room _ _ _ c.requires _ _ (rw c.byte_offset-bytes.ensures at c.if-code-bytes.false) c.if-relocs-pairs.true

pub write_unit-requires : goal.write_unit-requires
write_unit-requires c =
    let r = c.requires in
    record { tables = r.tables; lands = r.lands; room = room _ _ _ r c.args.code.now c.args.relocs.now (rw c.byte_offset-bytes.ensures at c.if-code-bytes.false) c.if-relocs-pairs.false }

pub returns : goal.returns
returns c =
    written _ _ _ c.requires _ _ (rw c.byte_offset-bytes.ensures at c.if-code-bytes.false) c.if-relocs-pairs.false c.write_unit.ensures.code_after c.write_unit.ensures.relocs_after
