-- One answer only: the promise of each public function decides, on every input, its answer and what it leaves in each lent buffer.
use Rattle.std.specs.Prelude.{◌≡◌}
use Rattle.unitfile.specs.MapName.{pointed}
use Rattle.wire.proofs as wire
use Rattle.ir.proofs as ir
use Rattle.insn.proofs as insn
use Rattle.text.proofs as text
use Rattle.opcode.proofs as opcode
use Rattle.operand.proofs as operand
use Rattle.record.proofs as reader
use Rattle.recordcheck.proofs as recordcheck
use Rattle.payloadwriter.proofs as payloadwriter
use Rattle.recordwriter.proofs as recordwriter
use Rattle.opening.proofs as opening
use Rattle.unitfile.proofs as unitfile
use Rattle.recordparts.proofs as recordparts
use Rattle.frame.proofs as frame
use Rattle.sort.proofs as sort
use Rattle.flow.proofs as flow
use Rattle.survey.proofs as survey
use Rattle.lower.proofs as lower
use Rattle.size.proofs as size
use Rattle.jumps.proofs as jumps
use Rattle.tracepoint.proofs as tracepoint
use Rattle.shape.proofs as shape
use Rattle.worklist.proofs as worklist
use Rattle.paths.proofs as paths
use Rattle.screen.proofs as screen
use Rattle.recordfields.proofs as recordfields
use Rattle.shurtenbo.proofs as shurtenbo

-- the contract P, of the arguments a, the answer and what was lent as it is at exit, decides what o takes of the latter two: outcomes that meet it agree in that. κ names lifetimes
abbrev pub Decides : {K : Type 0} {A R S O : K → Type 0} → ((κ : K) → A κ → R κ → S κ → Type 0) → ((κ : K) → R κ → S κ → O κ) → Type 0
Decides {K} {A} {R} {S} P o = (κ : K) (a : A κ) (x y : R κ) (s t : S κ) → P κ a x s → P κ a y t → o κ x s ≡ o κ y t

abbrev pub DecidesAnswer : {K : Type 0} {A R S : K → Type 0} → ((κ : K) → A κ → R κ → S κ → Type 0) → Type 0
DecidesAnswer P = Decides P (λ κ answer lent. answer)

infixl 4 ◌and◌
abbrev pub ◌and◌ : {A B : Type 0} → A → B → A × B
a and b = (a, b)

-- every function that a library crate lets others call; Reads.Post is its contract, as its source has it
pub record OneAnswer : Type 0 where
  pub wire_lies : DecidesAnswer wire.lies.Reads.Post
  pub wire_bits16 : DecidesAnswer wire.bits16.Reads.Post
  pub wire_bits32 : DecidesAnswer wire.bits32.Reads.Post
  pub wire_bits64 : DecidesAnswer wire.bits64.Reads.Post
  pub wire_sign64 : DecidesAnswer wire.sign64.Reads.Post
  pub wire_sign32 : DecidesAnswer wire.sign32.Reads.Post
  pub wire_fits16 : DecidesAnswer wire.range.fits16.Reads.Post
  pub wire_fits32 : DecidesAnswer wire.range.fits32.Reads.Post
  pub wire_get_u8 : DecidesAnswer wire.get_u8.Reads.Post
  pub wire_get_u16 : DecidesAnswer wire.get_u16.Reads.Post
  pub wire_get_u32 : DecidesAnswer wire.get_u32.Reads.Post
  pub wire_get_u64 : DecidesAnswer wire.get_u64.Reads.Post
  pub wire_get_i16 : DecidesAnswer wire.get_i16.Reads.Post
  pub wire_get_i32 : DecidesAnswer wire.get_i32.Reads.Post
  pub wire_get_i64 : DecidesAnswer wire.get_i64.Reads.Post
  pub wire_put_bytes : Decides wire.put_bytes.Reads.Post (λ κ r (b, _). b.now)
  pub wire_put_u8 : Decides wire.put_u8.Reads.Post (λ κ r (b, _). b.now)
  pub wire_put_u16 : Decides wire.put_u16.Reads.Post (λ κ r (b, _). b.now)
  pub wire_put_u32 : Decides wire.put_u32.Reads.Post (λ κ r (b, _). b.now)
  pub wire_put_u64 : Decides wire.put_u64.Reads.Post (λ κ r (b, _). b.now)
  pub wire_put_i32 : Decides wire.put_i32.Reads.Post (λ κ r (b, _). b.now)
  pub wire_put_i64 : Decides wire.put_i64.Reads.Post (λ κ r (b, _). b.now)
  pub wire_byte_offset : DecidesAnswer wire.number.byte_offset.Reads.Post
  pub ir_count : DecidesAnswer ir.operands.count.Reads.Post
  pub ir_push : DecidesAnswer ir.operands.push.Reads.Post
  pub ir_first : DecidesAnswer ir.operands.first.Reads.Post
  pub ir_rest : DecidesAnswer ir.operands.rest.Reads.Post
  pub insn_to_le_bytes : DecidesAnswer insn.Insn.to_le_bytes.Reads.Post
  pub insn_word : DecidesAnswer insn.word.Reads.Post
  pub insn_insn_at : DecidesAnswer insn.insn_at.Reads.Post
  pub insn_put_insn : Decides insn.put_insn.Reads.Post (λ κ r (b, _). b.now)
  pub insn_decode : DecidesAnswer insn.decode.Reads.Post
  pub insn_encode : Decides insn.encode.Reads.Post (λ κ r (_, (b, _)). r and b.now)
  pub insn_alu64_imm : DecidesAnswer insn.alu64_imm.Reads.Post
  pub insn_alu64_reg : DecidesAnswer insn.alu64_reg.Reads.Post
  pub insn_ldx_mem : DecidesAnswer insn.ldx_mem.Reads.Post
  pub insn_stx_mem : DecidesAnswer insn.stx_mem.Reads.Post
  pub insn_form_of : DecidesAnswer insn.form.form_of.Reads.Post
  pub insn_opcode_of : DecidesAnswer insn.opcode_of.Reads.Post
  pub insn_helper_of : DecidesAnswer insn.helper.helper_of.Reads.Post
  pub text_put_counts : Decides text.put_counts.Reads.Post (λ κ r (out, _). r and out.now)
  pub text_put_slot : Decides text.put_slot.Reads.Post (λ κ r (out, _). r and out.now)
  pub text_put_reloc : Decides text.put_reloc.Reads.Post (λ κ r (out, _). r and out.now)
  pub text_put_refused : Decides text.put_refused.Reads.Post (λ κ r (out, _). r and out.now)
  pub opcode_operation : DecidesAnswer opcode.operation.Reads.Post
  pub opcode_small_of : DecidesAnswer opcode.small_of.Reads.Post
  pub opcode_opcode_of : DecidesAnswer opcode.opcode_of.Reads.Post
  pub opcode_fields_of : DecidesAnswer opcode.fields_of.Reads.Post
  pub opcode_opcode_ok : DecidesAnswer opcode.opcode_ok.Reads.Post
  pub opcode_opcode_in : DecidesAnswer opcode.opcode_in.Reads.Post
  pub opcode_map_of : DecidesAnswer opcode.map_of.Reads.Post
  pub opcode_map_ok : DecidesAnswer opcode.map_ok.Reads.Post
  pub opcode_asks_of : DecidesAnswer opcode.asks.asks_of.Reads.Post
  pub opcode_enough : DecidesAnswer opcode.asks.enough.Reads.Post
  pub operand_operand_at : DecidesAnswer operand.operand_at.Reads.Post
  pub operand_operands_at : DecidesAnswer operand.operands_at.Reads.Post
  pub operand_is_operand : DecidesAnswer operand.is_operand.Reads.Post
  pub operand_are_operands : DecidesAnswer operand.are_operands.Reads.Post
  pub operand_operand_in : DecidesAnswer operand.operand_in.Reads.Post
  pub operand_put_operand : Decides operand.put_operand.Reads.Post (λ κ r (b, _). b.now)
  pub operand_put_operands : Decides operand.put_operands.Reads.Post (λ κ r (b, _). b.now)
  pub record_refusal : DecidesAnswer reader.refusal.Reads.Post
  pub record_read_record : DecidesAnswer reader.read_record.Reads.Post
  pub record_whole : DecidesAnswer reader.whole.Reads.Post
  pub record_kind : DecidesAnswer reader.kind.Reads.Post
  pub record_head_ok : DecidesAnswer reader.payload.head_ok.Reads.Post
  pub record_sized_within : DecidesAnswer reader.instruction.sized_within.Reads.Post
  pub record_fields_within : DecidesAnswer reader.instruction.fields_within.Reads.Post
  pub recordcheck_check_map : DecidesAnswer recordcheck.check_map.Reads.Post
  pub recordcheck_check_block : DecidesAnswer recordcheck.check_block.Reads.Post
  pub recordcheck_check_inside : DecidesAnswer recordcheck.check_inside.Reads.Post
  pub payloadwriter_put_instruction : Decides payloadwriter.put_instruction.Reads.Post (λ κ r (b, _). b.now)
  pub payloadwriter_terminator_size : DecidesAnswer payloadwriter.terminator_size.Reads.Post
  pub payloadwriter_put_terminator : Decides payloadwriter.put_terminator.Reads.Post (λ κ r (b, _). b.now)
  pub recordwriter_refusal : DecidesAnswer recordwriter.refusal.Reads.Post
  pub recordwriter_write_record : Decides recordwriter.write_record.Reads.Post (λ κ r (_, (_, (_, (buffer, _)))). r and buffer.now)
  pub opening_head_at : DecidesAnswer opening.head_at.Reads.Post
  pub opening_map_from : DecidesAnswer opening.map_from.Reads.Post
  pub opening_open_unit : DecidesAnswer opening.open_unit.Reads.Post
  pub unitfile_read_unit : DecidesAnswer unitfile.read_unit.Reads.Post
  pub unitfile_map_place : DecidesAnswer unitfile.map_place.Reads.Post
  pub unitfile_map_name : Decides unitfile.map_name.Reads.Post (λ κ r s. pointed r)
  pub unitfile_map_named : DecidesAnswer unitfile.map_named.Reads.Post
  pub recordparts_terminator_in : DecidesAnswer recordparts.terminator.terminator_in.Reads.Post
  pub frame_scratch : DecidesAnswer frame.hint.Frame.scratch.Reads.Post
  pub frame_index : DecidesAnswer frame.hint.Frame.index.Reads.Post
  pub frame_cell : DecidesAnswer frame.hint.Frame.cell.Reads.Post
  pub frame_put_hints : Decides frame.hint.put_hints.Reads.Post (λ κ r (_, (hints, _)). hints.now)
  pub frame_insert : Decides frame.insert.Reads.Post (λ κ r (variables, _). r and variables.now)
  pub sort_sort : Decides sort.sort.Reads.Post (λ κ r (keys, _). keys.now)
  pub flow_link : Decides flow.link.Reads.Post (λ κ r (_, (_, (_, (targets, (emitted, _))))). targets.now and emitted.now)
  pub survey_from_reading : DecidesAnswer survey.FaultFromRecordFault.from.Reads.Post
  pub survey_survey_unit : Decides survey.survey_unit.Reads.Post (λ κ r (_, (variables, (ids, (endings, _)))). r and variables.now and ids.now and endings.now)
  pub lower_lower_instruction : Decides lower.lower_instruction.Reads.Post (λ κ r (code, _). r and code.now)
  pub lower_scratch_after : DecidesAnswer lower.scratch_after.Reads.Post
  pub lower_lower_terminator : DecidesAnswer lower.lower_terminator.Reads.Post
  pub size_size_instruction : DecidesAnswer size.size_instruction.Reads.Post
  pub jumps_distance : DecidesAnswer jumps.distance.Reads.Post
  pub jumps_check_jumps : DecidesAnswer jumps.check_jumps.Reads.Post
  pub tracepoint_from_survey : DecidesAnswer tracepoint.FaultFromSurveyFault.from.Reads.Post
  pub tracepoint_from_measure : DecidesAnswer tracepoint.FaultFromTuple2UsizeReason.from.Reads.Post
  pub tracepoint_from_jumps : DecidesAnswer tracepoint.FaultFromAstray.from.Reads.Post
  pub tracepoint_refusal : DecidesAnswer tracepoint.refusal.Reads.Post
  pub tracepoint_compile_tracepoint : Decides tracepoint.compile_tracepoint.Reads.Post (λ κ r (_, (code, (relocs, _))). r and code.now and relocs.now)
  pub shape_length_ok : DecidesAnswer shape.length_ok.Reads.Post
  pub shape_instruction_at : DecidesAnswer shape.slot.instruction_at.Reads.Post
  pub shape_target : DecidesAnswer shape.slot.target.Reads.Post
  pub shape_judge : DecidesAnswer shape.judge.Reads.Post
  pub worklist_new : Decides worklist.Worklist.new.Reads.Post (λ κ r lent. r.top and r.mid and r.low)
  pub worklist_mark : Decides worklist.Worklist.mark.Reads.Post (λ κ r (w, _). w.now.top and w.now.mid and w.now.low)
  pub worklist_take : Decides worklist.Worklist.take.Reads.Post (λ κ r (w, _). r and w.now.top and w.now.mid and w.now.low)
  pub paths_analyse : Decides paths.analyse.Reads.Post (λ κ r (_, (table, _)). r and table.now)
  pub paths_read_mask : DecidesAnswer paths.read_mask.Reads.Post
  pub screen_refusal : DecidesAnswer screen.refusal.Reads.Post
  pub screen_from_shapes : DecidesAnswer screen.FaultFromShapes.from.Reads.Post
  pub screen_screen : Decides screen.screen.Reads.Post (λ κ r (_, (_, (table, _))). r and table.now)
  pub recordfields_fields_of : DecidesAnswer recordfields.numbers.fields_of.Reads.Post
  pub recordfields_record_from : DecidesAnswer recordfields.meant.record_from.Reads.Post
  pub shurtenbo_compile : Decides shurtenbo.units.shurtenbo_compile.Reads.Post (λ κ r (_, (code, (relocs, (answer, _)))). code.now and relocs.now and answer.now)
  pub shurtenbo_screen : Decides shurtenbo.code.shurtenbo_screen.Reads.Post (λ κ r (_, (_, (table, (answer, _)))). table.now and answer.now)
  pub shurtenbo_read_unit : Decides shurtenbo.units.shurtenbo_read_unit.Reads.Post (λ κ r (_, (answer, _)). answer.now)
  pub shurtenbo_map_name : Decides shurtenbo.units.shurtenbo_map_name.Reads.Post (λ κ r (_, (_, (answer, _))). answer.now)
  pub shurtenbo_decode : Decides shurtenbo.insns.shurtenbo_decode.Reads.Post (λ κ r (_, (fields, (answer, _))). fields.now and answer.now)
  pub shurtenbo_encode : Decides shurtenbo.insns.shurtenbo_encode.Reads.Post (λ κ r (_, (_, (_, (_, (_, (bytes, (answer, _))))))). bytes.now and answer.now)
  pub shurtenbo_read_record : Decides shurtenbo.records.shurtenbo_read_record.Reads.Post (λ κ r (_, (_, (_, (_, (fields, (answer, _)))))). fields.now and answer.now)
  pub shurtenbo_write_record : Decides shurtenbo.records.shurtenbo_write_record.Reads.Post (λ κ r (_, (_, (_, (buffer, (answer, _))))). buffer.now and answer.now)
