-- One answer only: where a promise is equations, two outcomes that meet it are equal to the same. The others have a law of their own.
use mathlib.Core.Path.{◌≡◌, refl, sym, ◌∙◌}
use Rattle.wire.specs.declared.number.ByteOffset.{ByteOffset}
use Rattle.lower.specs.Op.{◌▸◌, insn}
use Rattle.lower.specs.Held.{ending_ops}
use Rattle.lower.specs.declared.Ending.{Ending}
use Rattle.lower.specs.declared.Ending.TheVariants.{Return, Jump, Branch}
use Rattle.paths.proofs.Unique as paths
use Rattle.screen.proofs.OneAnswer as screen
use Rattle.shurtenbo.proofs.OneAnswer as shurtenbo
use Rattle.proved.specs.OneAnswer.{◌and◌, OneAnswer}
use Rattle.lower.specs.declared.Reason.{Reason}
use Rattle.std.specs.Prelude.{Err, Ok, Result}

-- each value of a terminator is of one list only
same_ending : (x y : Result Ending Reason) → ending_ops x ≡ ending_ops y → x ≡ y
unfolding ending_ops ◌▸◌ insn
same_ending (Ok (Return i)) (Ok (Return j)) e = cc
same_ending (Ok (Return i)) (Ok (Jump t)) e = cc
same_ending (Ok (Return i)) (Ok (Branch j t f)) e = cc
same_ending (Ok (Return i)) (Err q) e = cc
same_ending (Ok (Jump t)) (Ok (Return j)) e = cc
same_ending (Ok (Jump t)) (Ok (Jump u)) e = cc
same_ending (Ok (Jump t)) (Ok (Branch j u f)) e = cc
same_ending (Ok (Jump t)) (Err q) e = cc
same_ending (Ok (Branch i t f)) (Ok (Return j)) e = cc
same_ending (Ok (Branch i t f)) (Ok (Jump u)) e = cc
same_ending (Ok (Branch i t f)) (Ok (Branch j u g)) e = cc
same_ending (Ok (Branch i t f)) (Err q) e = cc
same_ending (Err r) (Ok (Return j)) e = cc
same_ending (Err r) (Ok (Jump u)) e = cc
same_ending (Err r) (Ok (Branch j u f)) e = cc
same_ending (Err r) (Err q) e = cc

same_offset : (x y : ByteOffset) → x.0 ≡ y.0 → x ≡ y
same_offset x y e = rw e

both_same : {A B : Type 0} {a c : A} {b d : B} → a ≡ c → b ≡ d → (a and b) ≡ (c and d)
both_same e h = cc

pub one_answer : OneAnswer
one_answer =
    record {
      wire_lies = λ κ a x y s t p q. cc;
      wire_bits16 = λ κ a x y s t p q. cc;
      wire_bits32 = λ κ a x y s t p q. cc;
      wire_bits64 = λ κ a x y s t p q. cc;
      wire_sign64 = λ κ a x y s t p q. cc;
      wire_sign32 = λ κ a x y s t p q. cc;
      wire_fits16 = λ κ a x y s t p q. cc;
      wire_fits32 = λ κ a x y s t p q. cc;
      wire_get_u8 = λ κ a x y s t p q. cc;
      wire_get_u16 = λ κ a x y s t p q. cc;
      wire_get_u32 = λ κ a x y s t p q. cc;
      wire_get_u64 = λ κ a x y s t p q. cc;
      wire_get_i16 = λ κ a x y s t p q. cc;
      wire_get_i32 = λ κ a x y s t p q. cc;
      wire_get_i64 = λ κ a x y s t p q. cc;
      wire_put_bytes = λ κ a x y s t p q. cc;
      wire_put_u8 = λ κ a x y s t p q. cc;
      wire_put_u16 = λ κ a x y s t p q. cc;
      wire_put_u32 = λ κ a x y s t p q. cc;
      wire_put_u64 = λ κ a x y s t p q. cc;
      wire_put_i32 = λ κ a x y s t p q. cc;
      wire_put_i64 = λ κ a x y s t p q. cc;
      wire_byte_offset = λ κ a x y s t p q. same_offset x y (p ∙ sym q);
      ir_count = λ κ a x y s t p q. cc;
      ir_push = λ κ a x y s t p q. cc;
      ir_first = λ κ a x y s t p q. cc;
      ir_rest = λ κ a x y s t p q. cc;
      insn_to_le_bytes = λ κ a x y s t p q. cc;
      insn_word = λ κ a x y s t p q. cc;
      insn_insn_at = λ κ a x y s t p q. cc;
      insn_put_insn = λ κ a x y s t p q. cc;
      insn_decode = λ κ a x y s t p q. cc;
      insn_encode = λ κ a x y s t p q. cc;
      insn_alu64_imm = λ κ a x y s t p q. cc;
      insn_alu64_reg = λ κ a x y s t p q. cc;
      insn_ldx_mem = λ κ a x y s t p q. cc;
      insn_stx_mem = λ κ a x y s t p q. cc;
      insn_form_of = λ κ a x y s t p q. cc;
      insn_opcode_of = λ κ a x y s t p q. cc;
      insn_helper_of = λ κ a x y s t p q. cc;
      text_put_counts = λ κ a x y s t p q. cc;
      text_put_slot = λ κ a x y s t p q. cc;
      text_put_reloc = λ κ a x y s t p q. cc;
      text_put_refused = λ κ a x y s t p q. cc;
      opcode_operation = λ κ a x y s t p q. cc;
      opcode_small_of = λ κ a x y s t p q. cc;
      opcode_opcode_of = λ κ a x y s t p q. cc;
      opcode_fields_of = λ κ a x y s t p q. cc;
      opcode_opcode_ok = λ κ a x y s t p q. cc;
      opcode_opcode_in = λ κ a x y s t p q. cc;
      opcode_map_of = λ κ a x y s t p q. cc;
      opcode_map_ok = λ κ a x y s t p q. cc;
      opcode_asks_of = λ κ a x y s t p q. cc;
      opcode_enough = λ κ a x y s t p q. cc;
      operand_operand_at = λ κ a x y s t p q. cc;
      operand_operands_at = λ κ a x y s t p q. cc;
      operand_is_operand = λ κ a x y s t p q. cc;
      operand_are_operands = λ κ a x y s t p q. cc;
      operand_operand_in = λ κ a x y s t p q. cc;
      operand_put_operand = λ κ a x y s t p q. cc;
      operand_put_operands = λ κ a x y s t p q. cc;
      record_refusal = λ κ a x y s t p q. cc;
      record_read_record = λ κ a x y s t p q. cc;
      record_whole = λ κ a x y s t p q. cc;
      record_kind = λ κ a x y s t p q. cc;
      record_head_ok = λ κ a x y s t p q. cc;
      record_sized_within = λ κ a x y s t p q. cc;
      record_fields_within = λ κ a x y s t p q. cc;
      recordcheck_check_map = λ κ a x y s t p q. p 0 ∙ sym (q 0);
      recordcheck_check_block = λ κ a x y s t p q. p 0 ∙ sym (q 0);
      recordcheck_check_inside = λ κ a x y s t p q. cc;
      payloadwriter_put_instruction = λ κ a x y s t p q. cc;
      payloadwriter_terminator_size = λ κ a x y s t p q. cc;
      payloadwriter_put_terminator = λ κ a x y s t p q. cc;
      recordwriter_refusal = λ κ a x y s t p q. cc;
      recordwriter_write_record = λ κ a x y s t p q. cc;
      opening_head_at = λ κ a x y s t p q. cc;
      opening_map_from = λ κ a x y s t p q. cc;
      opening_open_unit = λ κ a x y s t p q. cc;
      unitfile_read_unit = λ κ a x y s t p q. cc;
      unitfile_map_place = λ κ a x y s t p q. cc;
      unitfile_map_name = λ κ a x y s t p q. cc;
      unitfile_map_named = λ κ a x y s t p q. cc;
      recordparts_terminator_in = λ κ a x y s t p q. cc;
      frame_scratch = λ κ a x y s t p q. cc;
      frame_index = λ κ a x y s t p q. cc;
      frame_cell = λ κ a x y s t p q. cc;
      frame_put_hints = λ κ a x y s t p q. cc;
      frame_insert = λ κ a x y s t p q. cc;
      sort_sort = λ κ a x y s t p q. cc;
      flow_link = λ κ a x y s t p q. cc;
      survey_from_reading = λ κ a x y s t p q. cc;
      survey_survey_unit = λ κ a x y s t p q. cc;
      lower_lower_instruction = λ κ a x y s t p q. cc;
      lower_scratch_after = λ κ a x y s t p q. cc;
      lower_lower_terminator = λ κ a x y s t p q. same_ending x y (p ∙ sym q);
      size_size_instruction = λ κ a x y s t p q. cc;
      jumps_distance = λ κ a x y s t p q. cc;
      jumps_check_jumps = λ κ a x y s t p q. cc;
      tracepoint_from_survey = λ κ a x y s t p q. cc;
      tracepoint_from_measure = λ κ a x y s t p q. cc;
      tracepoint_from_jumps = λ κ a x y s t p q. cc;
      tracepoint_refusal = λ κ a x y s t p q. cc;
      tracepoint_compile_tracepoint = λ κ a x y s t p q. cc;
      shape_length_ok = λ κ a x y s t p q. cc;
      shape_instruction_at = λ κ a x y s t p q. cc;
      shape_target = λ κ a x y s t p q. cc;
      shape_judge = λ κ a x y s t p q. cc;
      worklist_new = λ κ a x y s t p q. cc;
      worklist_mark = λ κ a x y s t p q. cc;
      worklist_take = λ κ a x y s t p q. cc;
      paths_analyse = λ κ a x y s t p q. let E = paths.one_answer a.0.now a.1.0.now s.1.0.now t.1.0.now x y p q in both_same E.1 E.0;
      paths_read_mask = λ κ a x y s t p q. cc;
      screen_refusal = λ κ a x y s t p q. cc;
      screen_from_shapes = λ κ a x y s t p q. cc;
      screen_screen = λ κ a x y s t p q. let E = screen.one_verdict a.0.now a.1.0.now a.1.1.0.now x y s.1.1.0.now t.1.1.0.now p q in both_same E.0 E.1;
      recordfields_fields_of = λ κ a x y s t p q. cc;
      recordfields_record_from = λ κ a x y s t p q. cc;
      shurtenbo_compile = λ κ a x y s t p q. cc;
      shurtenbo_screen = λ κ a x y s t p q. let E = shurtenbo.one_screen a.0.now a.1.0.now a.1.1.0.now s.1.1.0.now t.1.1.0.now s.1.1.1.0.now t.1.1.1.0.now p q in both_same E.0 E.1;
      shurtenbo_read_unit = λ κ a x y s t p q. cc;
      shurtenbo_map_name = λ κ a x y s t p q. cc;
      shurtenbo_decode = λ κ a x y s t p q. cc;
      shurtenbo_encode = λ κ a x y s t p q. cc;
      shurtenbo_read_record = λ κ a x y s t p q. cc;
      shurtenbo_write_record = λ κ a x y s t p q. cc;
    }
