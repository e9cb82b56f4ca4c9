-- 01's known points hold of the definitions: all of them compute.
use mathlib.Core.Path.{refl}
use Rattle.wire.specs.Pick as pick
use Rattle.wire.specs.Le as le
use Rattle.wire.specs.Range as range
use Rattle.ir.specs.Operands as operands
use Rattle.operand.specs.Operand as operand
use Rattle.payloadwriter.specs.Payloads as payload
use Rattle.recordwriter.specs.Bytes as writer
use Rattle.opcode.specs.Opcode as opcode
use Rattle.record.specs.Frame as frames
use Rattle.record.specs.Instruction as instruction
use Rattle.record.specs.Terminator as terminator
use Rattle.record.specs.Payload as reader
use Rattle.record.specs.Record as records
use Rattle.opening.specs.Names as opening
use Rattle.unitfile.specs.Records as file
use Rattle.unitfile.specs.Unit as parser
use Rattle.unitfile.specs.MapName as names
use Rattle.frame.specs.Variables as variables
use Rattle.frame.specs.Cell as cells
use Rattle.survey.specs.Occurrences as occurrences
use Rattle.survey.specs.Collected as collected
use Rattle.survey.specs.Conditions as conditions
use Rattle.survey.specs.Surveyed as surveyed
use Rattle.flow.specs.Node as node
use Rattle.flow.specs.Computed as reached
use Rattle.layout.specs.Emitted as emitted
use Rattle.insn.specs.Rfc as rfc
use Rattle.insn.specs.Form as forms
use Rattle.insn.specs.Layout as bytes
use Rattle.lower.specs.Op as ops
use Rattle.lower.specs.Operand as loads
use Rattle.lower.specs.Instruction as lower
use Rattle.lower.specs.Terminator as ending
use Rattle.layout.specs.Layout as layout
use Rattle.layout.specs.Jumps as jumps
use Rattle.layout.specs.Code as code
use Rattle.tracepoint.specs.Compile as compile
use Rattle.proved.specs.Points.{together, unit, calls, p1, p2, p3, p4, p5, p6, p7, p8, p9, p10}
use Rattle.proved.specs.Known.{printed, KnownPoints}
use Rattle.proved.proofs.ScreenPoints.{move_alone, exit_alone}

pub known : KnownPoints
unfolding printed together unit calls p1 p2 p3 p4 p5 p6 p7 p8 p9 p10
    pick.is_zero
    le.le le.bytes_of le.unsigned_at le.signed_at le.unsigned_bytes le.signed_bytes
    operands.list_of operands.pushed
    operand.operand_at operand.on_operand operand.operands_at operand.operand_bytes operand.operands_bytes
    payload.instruction_bytes payload.terminator_bytes
    writer.payload_bytes writer.record_bytes
    opcode.operations opcode.small_of opcode.fields_of opcode.map_of opcode.opcode_in opcode.map_ok opcode.same_number opcode.same_fields opcode.opcode_of
    frames.whole_at frames.next_at
    instruction.fields_in instruction.count_in instruction.joined instruction.sized instruction.instruction_at
    terminator.returning terminator.branching terminator.terminator_at
    reader.head_in reader.head_ok reader.of_instruction reader.of_terminator reader.payload_at reader.kind_of
    records.kind_due records.not_due records.broken records.on_payload records.read_record
    opening.among opening.on_map opening.names_at opening.first_record opening.with_names opening.on_head opening.open_unit
    file.after file.on_record file.next_record file.cons file.on_step file.up_to file.records_from
    parser.on_value parser.group parser.with_records parser.on_opened parser.parse
    names.name_of
    variables.insert
    cells.offset_of cells.cell_from cells.frame_of
    occurrences.of_operand occurrences.of_operands occurrences.of_instruction occurrences.of_instructions occurrences.of_terminator occurrences.occurrences
    collected.collect collected.collected
    conditions.is_var conditions.branches_on conditions.is_condition
    surveyed.blocks_of surveyed.variables_of
    node.among node.or_this node.last_with
    reached.join reached.targets_of reached.sweep reached.sweeps reached.first_id reached.reached_ids reached.is_reached
    emitted.targets emitted.nodes emitted.keep emitted.emitted
    rfc.operation_of rfc.size_field rfc.width
    forms.opcode_of forms.sizes forms.mem_code
    bytes.bytes_of
    ops.◌▸◌ ops.insn ops.slots_of
    range.fits32 range.fits16 loads.constant loads.move loads.add loads.call loads.on_cell loads.load loads.addr loads.next loads.keep loads.map_address
    lower.on_first lower.on_none lower.sized lower.mem lower.from_context lower.helper_call lower.opcode lower.instruction lower.after_two lower.after_first lower.scratch_by lower.scratch_after
    ending.terminator
    layout.at layout.◌then◌ layout.instructions layout.scratch_through layout.block layout.blocks layout.unit_ops layout.ops layout.slots
    jumps.starts_from jumps.starts jumps.or_this jumps.last_start jumps.jas jumps.jnes jumps.patches jumps.jumps_from jumps.jumps jumps.on_target jumps.or_rest jumps.landing
    code.distance_to code.insns code.code_bytes code.relocations
    compile.reason_refusal compile.refusal_of compile.on_landing compile.on_laid compile.on_collected compile.lowering compile.lowering_of compile.roomed compile.compile_answer compile.code_of compile.relocs_of
known =
    record {
      P1 = refl;
      P2 = refl;
      P2_name = refl;
      P3 = refl;
      P3_screen = move_alone;
      P4 = refl;
      P5 = refl;
      P6 = refl;
      P7_scratch = refl;
      P7_fits = refl;
      P7_refused = refl;
      P8_largest = refl;
      P8_smallest = refl;
      P8_refused = refl;
      P9_passes = refl;
      P9_offset = refl;
      P9_size = refl;
      P10 = refl;
      P11 = exit_alone;
    }
