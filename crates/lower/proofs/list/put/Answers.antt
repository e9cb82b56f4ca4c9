-- `put` puts a piece, instruction by instruction.
use Rattle.lower.proofs.Steps.{put_nothing, put_one, put_two}
use Rattle.lower.proofs.list.put.Goals as goal

pub returns-in-Nothing : goal.returns-in-Nothing
returns-in-Nothing c = put_nothing c.args.code.now c.args.at c.args.slot.0 c.in-Nothing.is

pub returns-in-One : goal.returns-in-One
returns-in-One c = put_one c.args.code.now c.args.at c.args.slot.0 c.in-One.is c.put_slot.ensures

pub returns-in-Two : goal.returns-in-Two
returns-in-Two c =
    put_two c.args.code.now c.args.at c.args.slot.0 c.in-Two.is c.put_slot-in-Two.ensures c.put_slot-in-Two-2.ensures
