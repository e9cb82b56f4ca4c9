-- Which opcode a payload has, by its code, and what becomes of the instruction then.
use mathlib.Core.Path.{◌≡◌, refl, sym, ◌∙◌}
use mathlib.Core.Bool.{Bool}
use mathlib.Core.List.{List}
use Prim.Native.Nat.{ℕ, zero, suc}
use lib.ListN.{get_or}
use Rattle.ir.specs.declared.BinaryOp.TheVariants.{Add}
use Rattle.ir.specs.declared.Operand.{Operand}
use Rattle.ir.specs.declared.Opcode.{Opcode}
use Rattle.ir.specs.declared.Opcode.TheVariants as C
use Rattle.opcode.specs.Opcode.{operations, map_of, opcodes, opcode_in}
use Rattle.opcode.specs.declared.Fields.{Fields}
use Rattle.record.specs.Instruction.{fields_in}
use Rattle.frame.specs.Cell.{Frame}
use Rattle.lower.specs.Instruction.{scratch_by}
use Rattle.lower.specs.Payload.{operands_of, instruction_as, instruction_in, scratch_in}

-- ---- by the code

module _ (f : Fields) {code : ℕ} (e : code ≡ f.code) where
  pub is_helper_call : code ≡ 1 → opcode_in f ≡ C.HelperCall f.number
  unfolding opcode_in
  is_helper_call h = rw (sym e ∙ h)

  pub is_store : code ≡ 3 → opcode_in f ≡ C.Store f.small
  unfolding opcode_in
  is_store h = rw (sym e ∙ h)

  pub is_load_ctx : code ≡ 4 → opcode_in f ≡ C.LoadCtx f.offset f.small
  unfolding opcode_in
  is_load_ctx h = rw (sym e ∙ h)

  pub is_load_packet : code ≡ 5 → opcode_in f ≡ C.LoadPacket f.offset f.small
  unfolding opcode_in
  is_load_packet h = rw (sym e ∙ h)

  pub is_copy : code ≡ 6 → opcode_in f ≡ C.CopyCtxToMem f.offset f.number
  unfolding opcode_in
  is_copy h = rw (sym e ∙ h)

  pub is_null_check : code ≡ 7 → opcode_in f ≡ C.NullCheck
  unfolding opcode_in
  is_null_check h = rw (sym e ∙ h)

  pub is_binary : code ≡ 8 → opcode_in f ≡ C.Binary (get_or operations f.small Add)
  unfolding opcode_in
  is_binary h = rw (sym e ∙ h)

  pub is_call_map : code ≡ 9 → opcode_in f ≡ C.CallMap f.number
  unfolding opcode_in
  is_call_map h = rw (sym e ∙ h)

  pub is_update_map : code ≡ 10 → opcode_in f ≡ C.UpdateMap f.number
  unfolding opcode_in
  is_update_map h = rw (sym e ∙ h)

  pub is_reserve : code ≡ 11 → opcode_in f ≡ C.RingBufReserve (map_of f.offset) f.number
  unfolding opcode_in
  is_reserve h = rw (sym e ∙ h)

  pub is_submit : code ≡ 12 → opcode_in f ≡ C.RingBufSubmit f.number
  unfolding opcode_in
  is_submit h = rw (sym e ∙ h)

  -- all but CallMap and UpdateMap leave the scratch position
  module _ (j : ℕ) (os : List Operand) where
    stays_at : (n : ℕ) → (n ≡ 9 → ⊥) → (n ≡ 10 → ⊥) → scratch_by j (get_or (opcodes f) n C.LoadKey) os ≡ j
    unfolding scratch_by
    stays_at zero n9 n10 = refl
    stays_at (suc zero) n9 n10 = refl
    stays_at (suc (suc zero)) n9 n10 = refl
    stays_at (suc (suc (suc zero))) n9 n10 = refl
    stays_at (suc (suc (suc (suc zero)))) n9 n10 = refl
    stays_at (suc (suc (suc (suc (suc zero))))) n9 n10 = refl
    stays_at (suc (suc (suc (suc (suc (suc zero)))))) n9 n10 = refl
    stays_at (suc (suc (suc (suc (suc (suc (suc zero))))))) n9 n10 = refl
    stays_at (suc (suc (suc (suc (suc (suc (suc (suc zero)))))))) n9 n10 = refl
    stays_at (suc (suc (suc (suc (suc (suc (suc (suc (suc zero))))))))) n9 n10 = absurd (n9 refl)
    stays_at (suc (suc (suc (suc (suc (suc (suc (suc (suc (suc zero)))))))))) n9 n10 = absurd (n10 refl)
    stays_at (suc (suc (suc (suc (suc (suc (suc (suc (suc (suc (suc zero))))))))))) n9 n10 = refl
    stays_at (suc (suc (suc (suc (suc (suc (suc (suc (suc (suc (suc (suc zero)))))))))))) n9 n10 = refl
    stays_at (suc (suc (suc (suc (suc (suc (suc (suc (suc (suc (suc (suc (suc n))))))))))))) n9 n10 = refl

    pub stays : (code ≡ 9 → ⊥) → (code ≡ 10 → ⊥) → scratch_by j (opcode_in f) os ≡ j
    unfolding opcode_in
    stays n9 n10 = rw (← e) (stays_at code n9 n10)

-- ---- the parts of a payload, as the code has them

module _ (p : List ℕ) {o x : Opcode} (by : opcode_in (fields_in p 0) ≡ x) (is : o ≡ x) where
  pub lowered : (f : Frame) (j : ℕ) (condition : Bool) → instruction_as f j condition o p ≡ instruction_in f j condition p
  unfolding instruction_in
  lowered f j condition = rw (is, by)

  pub moved : (j : ℕ) → scratch_by j o (operands_of p) ≡ scratch_in j p
  unfolding scratch_in
  moved j = rw (is, by)
