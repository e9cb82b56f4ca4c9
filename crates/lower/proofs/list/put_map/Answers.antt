-- `put_map` puts the two slots of a map load.
use Rattle.insn.specs.Rfc.{size_field}
use Rattle.insn.specs.Form.{opcode_of}
use Rattle.lower.proofs.Steps.{put_no_map, put_a_map}
use Rattle.lower.proofs.list.put_map.Goals as goal

pub returns-in-None-clause-holds : goal.returns-in-None-clause-holds
returns-in-None-clause-holds c = put_no_map c.args.code.now c.args.at c.in-None.is

pub returns-in-Some-clause-holds : goal.returns-in-Some-clause-holds
unfolding opcode_of size_field
returns-in-Some-clause-holds c = put_a_map c.args.code.now c.args.at c.in-Some.is c.word-wide.ensures c.put_slot.ensures c.put_slot-in-Some.ensures
