-- A record's payload as a part of the unit: what stands in it is what stands in the unit after the record's place.
use mathlib.Core.Path.{◌≡◌, refl, sym, ap, ◌∙◌}
use mathlib.Core.Bool.{Bool, true, false, true≢false}
use mathlib.Core.List.{List}
use Prim.Native.Nat.{ℕ, zero, suc, ◌+◌, ◌-◌}
use native.Mathlib.Nat.{add-zero}
use native.Mathlib.Omega.{arith}
use lib.Dec.{eqb}
use lib.ListN.{length, take, drop, get_or, length-drop}
use lib.Seq.{take_all}
use mir.Syntax.{w32, w64}
use Rattle.wire.specs.Le.{byte_at, unsigned_at}
use Rattle.wire.specs.Pick.{pick}
use Rattle.ir.specs.Operands.{list_of}
use Rattle.ir.specs.declared.Operand.{Operand}
use Rattle.ir.specs.declared.Instruction.{Instruction}
use Rattle.ir.specs.declared.Opcode.{Opcode}
use Rattle.ir.specs.declared.Opcode.TheVariants as C
use Rattle.opcode.specs.Opcode.{opcodes, opcode_in}
use Rattle.opcode.specs.declared.Fields.{Fields}
use Rattle.operand.specs.Operand.{operand_in, operands_in}
use Rattle.record.specs.Instruction.{fields_in, count_in}
use Rattle.recordparts.specs.Terminator.{terminator_in}
use Rattle.recordparts.specs.Stands.{InstructionAt}
use Rattle.frame.specs.Cell.{Frame}
use Rattle.frame.specs.Hint.{frame_by}
use Rattle.lower.specs.Instruction.{opcode, instruction, scratch_after}
use Rattle.lower.specs.Payload.{operands_of, instruction_in, scratch_in}
use Rattle.lower.specs.Held.{held}
use Rattle.lower.specs.declared.Emitted.{Emitted}
use Rattle.lower.specs.declared.Reason.{Reason}
use Rattle.std.specs.Prelude.{Result}
use Rattle.layout.proofs.Tidy.{Tidy, tidy_opcode}
use Rattle.passes.specs.Inner.{context_of, condition_in}
use Rattle.passes.specs.Places.{map_taken, payload_at, instruction_by, ring_on, ring_by}
use Rattle.wire.proofs.Part.{byte_drop, unsigned_drop, signed_drop, unsigned_first}

-- the payload as the code lends it: the part from there to the unit's end
pub payload_whole : (b : List ℕ) (place : ℕ) → take (length b - (place + 4)) (payload_at b place) ≡ payload_at b place
payload_whole b place = take_all (length b - (place + 4)) (drop (place + 4) b) (simp length-drop (omega arith))

-- ---- operands, fields, terminators

module _ (b : List ℕ) (k : ℕ) where
  operand_drop : (i : ℕ) → operand_in (drop k b) i ≡ operand_in b (k + i)
  unfolding operand_in
  operand_drop i =
      let z : k + (i + 1) ≡ k + i + 1 = omega arith in
      rw (byte_drop b k i, signed_drop b k (i + 1) w64, unsigned_drop b k (i + 1) w32, z)

  operands_drop : (i n : ℕ) → operands_in (drop k b) i n ≡ operands_in b (k + i) n
  unfolding operands_in
  operands_drop i zero = refl
  operands_drop i (suc n) =
      let z : k + (i + 9) ≡ k + i + 9 = omega arith in
      rw (operand_drop i, operands_drop (i + 9) n, z)

  fields_drop : fields_in (drop k b) 0 ≡ fields_in b k
  unfolding fields_in
  fields_drop = rw (byte_drop b k 4, byte_drop b k 5, signed_drop b k 8 w32, unsigned_drop b k 12 w32)

  pub terminator_drop : terminator_in (drop k b) 0 ≡ terminator_in b k
  unfolding terminator_in
  terminator_drop = rw (byte_drop b k 0, add-zero k, operand_drop 1, unsigned_drop b k 1 w32, unsigned_drop b k 10 w32, unsigned_drop b k 14 w32)

-- ---- the instruction whose record begins at a place

module _ (b : List ℕ) (place : ℕ) (i : Instruction) (e : InstructionAt b place i) where
  abbrev p : List ℕ
  p = payload_at b place

  pub result_is : unsigned_at w32 p 0 ≡ i.result
  result_is = unsigned_first w32 b (place + 4) ∙ sym e.result

  opcode_is : opcode_in (fields_in p 0) ≡ i.opcode
  opcode_is = ap opcode_in (fields_drop b (place + 4)) ∙ sym e.opcode

  pub operands_are : operands_of p ≡ list_of i.operands
  unfolding operands_of count_in
  operands_are =
      let z : place + 4 + 16 ≡ place + 20 = omega arith in
      operands_drop b (place + 4) 16 _ ∙ rw (byte_drop b (place + 4) 6, z) (sym e.list)

  pub instruction_is : (f : Frame) (j : ℕ) (t : Bool) → instruction_in f j t p ≡ instruction f j t i
  unfolding instruction_in instruction
  instruction_is f j t = rw (result_is, opcode_is, operands_are)

  pub scratch_is : (j : ℕ) → scratch_in j p ≡ scratch_after j i
  unfolding scratch_in scratch_after
  scratch_is j = rw (opcode_is, operands_are)

-- ---- what any payload becomes

pub tidy_payload : (f : Frame) (j : ℕ) (t : Bool) (p : List ℕ) → Tidy 11 (instruction_in f j t p)
unfolding instruction_in
tidy_payload f j t p = tidy_opcode f j t _ _ _

-- only a NullCheck goes by the condition
module _ (f : Frame) (j : ℕ) (t u : Bool) (result : ℕ) (os : List Operand) where
  abbrev Same : Opcode → Type 0
  Same o = opcode f j t result o os ≡ opcode f j u result o os

  same_at : (x : Fields) (n : ℕ) → eqb n 7 ≡ false → Same (get_or (opcodes x) n C.LoadKey)
  unfolding opcode
  same_at x zero other = refl
  same_at x (suc zero) other = refl
  same_at x (suc (suc zero)) other = refl
  same_at x (suc (suc (suc zero))) other = refl
  same_at x (suc (suc (suc (suc zero)))) other = refl
  same_at x (suc (suc (suc (suc (suc zero))))) other = refl
  same_at x (suc (suc (suc (suc (suc (suc zero)))))) other = refl
  same_at x (suc (suc (suc (suc (suc (suc (suc zero))))))) other = absurd (true≢false other)
  same_at x (suc (suc (suc (suc (suc (suc (suc (suc zero)))))))) other = refl
  same_at x (suc (suc (suc (suc (suc (suc (suc (suc (suc zero))))))))) other = refl
  same_at x (suc (suc (suc (suc (suc (suc (suc (suc (suc (suc zero)))))))))) other = refl
  same_at x (suc (suc (suc (suc (suc (suc (suc (suc (suc (suc (suc zero))))))))))) other = refl
  same_at x (suc (suc (suc (suc (suc (suc (suc (suc (suc (suc (suc (suc zero)))))))))))) other = refl
  same_at x (suc (suc (suc (suc (suc (suc (suc (suc (suc (suc (suc (suc (suc n))))))))))))) other = refl

  pub same_opcode : (x : Fields) → eqb x.code 7 ≡ false → Same (opcode_in x)
  unfolding opcode_in
  same_opcode x other = same_at x x.code other

asked_by : (f : Frame) (j : ℕ) (t : Bool) (p : List ℕ) (s : Bool) → eqb (byte_at p 4) 7 ≡ s → instruction_in f j (pick s t false) p ≡ instruction_in f j t p
unfolding instruction_in fields_in
asked_by f j t p true e = refl
asked_by f j t p false e = same_opcode f j false t _ _ (fields_in p 0) e

pub asked_is : (vs hs ms : List ℕ) (j : ℕ) (p : List ℕ) {t : Bool} → t ≡ condition_in (context_of vs hs ms) p → instruction_in (frame_by vs hs) j t p ≡ instruction_by (context_of vs hs ms) j p
unfolding condition_in instruction_by
asked_is vs hs ms j p e = ap (λ (t : Bool). instruction_in (frame_by vs hs) j t p) e ∙ asked_by (frame_by vs hs) j _ p (eqb (byte_at p 4) 7) refl

-- the scratch position, by what the lowering told
pub ring_is : (vs hs ms : List ℕ) (j : ℕ) (p : List ℕ) {t : Bool} {e : Result Emitted Reason} → t ≡ condition_in (context_of vs hs ms) p → e ≡ held (instruction_in (frame_by vs hs) j t p) → ring_on (map_taken e) j (scratch_in j p) ≡ ring_by (context_of vs hs ms) j p
unfolding ring_by
ring_is vs hs ms j p asked told = ap (λ (x : Result Emitted Reason). ring_on (map_taken x) j (scratch_in j p)) (told ∙ ap held (asked_is vs hs ms j p asked))
