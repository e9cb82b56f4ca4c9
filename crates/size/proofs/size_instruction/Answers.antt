-- `size_instruction` is `size_in`, by the code.
use mathlib.Core.Path.{◌∙◌}
use Rattle.opcode.specs.Opcode.{opcode_in}
use Rattle.record.specs.Instruction.{fields_in}
use Rattle.lower.specs.Instruction.{opcode}
use Rattle.lower.specs.Payload.{instruction_in}
use Rattle.size.specs.Size.{size_in, size_by}
use Rattle.size.proofs.Opcodes.{load_key, submit, other_code}
use Rattle.size.proofs.size_instruction.Goals as goal

pub returns-in-1 : goal.returns-in-1
unfolding size_in instruction_in opcode_in fields_in size_by opcode
returns-in-1 c = rw (← c.get_u8.ensures, c.in-1.is) c.helper_call.ensures

pub returns-in-2 : goal.returns-in-2
unfolding size_in instruction_in opcode_in fields_in size_by
returns-in-2 c = rw (← c.get_u8.ensures, c.in-2.is) (c.first.ensures ∙ load_key c.args.payload.now c.args.condition)

pub returns-in-3 : goal.returns-in-3
unfolding size_in instruction_in opcode_in fields_in size_by opcode
returns-in-3 c = rw (← c.get_u8.ensures, c.in-3.is) c.store.ensures

pub returns-in-4 : goal.returns-in-4
unfolding size_in instruction_in opcode_in fields_in size_by opcode
returns-in-4 c = rw (← c.get_u8.ensures, c.in-4.is) c.from_context.ensures

pub returns-in-5 : goal.returns-in-5
unfolding size_in instruction_in opcode_in fields_in size_by opcode
returns-in-5 c = rw (← c.get_u8.ensures, c.in-5.is) c.from_context-in-5.ensures

pub returns-in-6 : goal.returns-in-6
unfolding size_in instruction_in opcode_in fields_in size_by opcode
returns-in-6 c = rw (← c.get_u8.ensures, c.in-6.is) c.copy_context.ensures

pub returns-in-7 : goal.returns-in-7
unfolding size_in instruction_in opcode_in fields_in size_by
returns-in-7 c = rw (← c.get_u8.ensures, c.in-7.is) c.null_check.ensures

pub returns-in-8 : goal.returns-in-8
unfolding size_in instruction_in opcode_in fields_in size_by opcode
returns-in-8 c = rw (← c.get_u8.ensures, c.in-8.is) c.binary.ensures

pub returns-in-9 : goal.returns-in-9
unfolding size_in instruction_in opcode_in fields_in size_by opcode
returns-in-9 c = rw (← c.get_u8.ensures, c.in-9.is) c.call_map.ensures

pub returns-in-10 : goal.returns-in-10
unfolding size_in instruction_in opcode_in fields_in size_by opcode
returns-in-10 c = rw (← c.get_u8.ensures, c.in-10.is) c.update_map.ensures

pub returns-in-11 : goal.returns-in-11
unfolding size_in instruction_in opcode_in fields_in size_by opcode
returns-in-11 c = rw (← c.get_u8.ensures, c.in-11.is) c.reserve.ensures

pub returns-in-12 : goal.returns-in-12
unfolding size_in instruction_in opcode_in fields_in size_by
returns-in-12 c = rw (← c.get_u8.ensures, c.in-12.is) (c.first-in-12.ensures ∙ submit c.args.payload.now c.args.condition _)

pub returns-in_default : goal.returns-in_default
unfolding size_in instruction_in size_by
returns-in_default c =
    let code = other_code c.args.payload.now c.get_u8.result c.get_u8.ensures c.in_default.in_default-own.rest.0.0.0.0.0.0.0.0.0.0.0.1 c.in_default.in_default-own.rest.0.0.0.0.0.0.0.0.0.0.1 c.in_default.in_default-own.rest.0.0.0.0.0.0.0.0.0.1 c.in_default.in_default-own.rest.0.0.0.0.0.0.0.0.1 c.in_default.in_default-own.rest.0.0.0.0.0.0.0.1 c.in_default.in_default-own.rest.0.0.0.0.0.0.1 c.in_default.in_default-own.rest.0.0.0.0.0.1 c.in_default.in_default-own.rest.0.0.0.0.1 c.in_default.in_default-own.rest.0.0.0.1 c.in_default.in_default-own.rest.0.0.1 c.in_default.in_default-own.rest.0.1 c.in_default.in_default-own.rest.1 in
    rw code (c.first-in_default.ensures ∙ load_key c.args.payload.now c.args.condition)
