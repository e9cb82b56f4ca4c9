-- What was written is read: wherever a record's bytes stand, the reader finds the record.
use mathlib.Core.Path.{◌≡◌, refl, sym, ap, ◌∙◌}
use mathlib.Core.Bool.{true}
use mathlib.Core.List.{List, [], ◌∷◌, ◌++◌, append-nil, append_assoc}
use Prim.Native.Nat.{ℕ, suc, ◌+◌, ◌*◌, ◌^◌, ◌<◌}
use native.Mathlib.Nat.{add_assoc}
use native.Mathlib.Omega.{arith}
use borrow.Author.Tests.{eq-eqb, le-leb, ltb-true}
use lib.ListN.{length, get_or, length-append}
use mir.Syntax.{w16, w32, w64}
use mir.Val.{Fits, SFits}
use mir.ValLaws.{to_z_pos}
use Rattle.wire.specs.Le.{unsigned_at, unsigned_bytes, signed_bytes}
use Rattle.wire.proofs.Le.{unsigned_length, signed_length}
use Rattle.ir.specs.Operands.{list_of, pushed}
use Rattle.ir.specs.declared.Operand.{Operand}
use Rattle.ir.specs.declared.Operand.TheVariants.{Var, Immediate}
use Rattle.ir.specs.declared.Opcode.{Opcode}
use Rattle.ir.specs.declared.Opcode.TheVariants as C
use Rattle.ir.specs.declared.Instruction.{Instruction}
use Rattle.ir.specs.declared.Terminator.{Terminator}
use Rattle.ir.specs.declared.Terminator.TheVariants.{Return, Jump, Branch}
use Rattle.ir.specs.declared.operands.Operands.{Operands}
use Rattle.ir.specs.declared.operands.Operands.TheVariants.{Zero}
use Rattle.ir.proofs.OperandLaws.{at_most_eight, pushed_last, list_of_injective}
use Rattle.operand.specs.Operand.{operand_at, on_operand, operands_at, operand_bytes, operands_bytes}
use Rattle.operand.proofs.OperandBytes.{operand_length}
use Rattle.record.specs.Instruction.{fields_in, count_in, sized, joined, instruction_at}
use Rattle.record.specs.Terminator.{returning, branching, terminator_at}
use Rattle.record.specs.Payload.{head_in, of_instruction, of_terminator, payload_at, kind_of}
use Rattle.record.specs.Frame.{whole_at, next_at}
use Rattle.record.specs.Record.{kind_due, on_payload, read_record}
use Rattle.opcode.specs.declared.Fields.{Fields}
use Rattle.record.specs.declared.Head.{Head}
use Rattle.record.specs.declared.Record.{Record}
use Rattle.record.specs.declared.Record.TheVariants as R
use Rattle.payloadwriter.specs.Payloads.{instruction_bytes, terminator_bytes}
use Rattle.recordwriter.specs.Bytes.{payload_bytes, record_bytes}
use Rattle.recordwriter.specs.Written.{valid}
use Rattle.opcode.specs.Opcode.{fields_of, map_ok}
use Rattle.opcode.proofs.Opcodes.{opcode_written}
use Rattle.recordwriter.specs.Typed.{TypedOperand, TypedOperands, TypedOpcode, TypedTerminator, Typed, due_of, placed}
use Rattle.payloadwriter.proofs.Lengths.{instruction_length, return_length, jump_length, branch_length}
use Rattle.recordwriter.proofs.Length.{head_length, part_length, record_length}
use Rattle.recordwriter.proofs.Valid.{name_told, payload_small}
use Rattle.recordwriter.proofs.Holds.{Holds, stands, first, second, byte_there, unsigned_there, signed_there}
use Rattle.std.specs.Prelude.{Ok, Some}

-- ---- the fields of an opcode fit theirs

number_fits : (o : Opcode) → TypedOpcode o → Fits w32 (fields_of o).number
unfolding fields_of
number_fits (C.HelperCall id) f = f
number_fits C.LoadKey f = record { fits = omega arith }
number_fits (C.Store size) f = record { fits = omega arith }
number_fits (C.LoadCtx offset size) f = record { fits = omega arith }
number_fits (C.LoadPacket offset size) f = record { fits = omega arith }
number_fits (C.CopyCtxToMem offset size) f = f.1
number_fits C.NullCheck f = record { fits = omega arith }
number_fits (C.Binary op) f = record { fits = omega arith }
number_fits (C.CallMap m) f = f
number_fits (C.UpdateMap m) f = f
number_fits (C.RingBufReserve m size) f = f.1
number_fits (C.RingBufSubmit m) f = f

-- a map number that is below a map count of 16 bits fits the signed offset
offset_fits : (maps : ℕ) (o : Opcode) → Fits w16 maps → TypedOpcode o → map_ok maps o ≡ true → SFits w32 (fields_of o).offset
unfolding fields_of map_ok
offset_fits maps (C.HelperCall id) h f e = record { sfits = omega arith }
offset_fits maps C.LoadKey h f e = record { sfits = omega arith }
offset_fits maps (C.Store size) h f e = record { sfits = omega arith }
offset_fits maps (C.LoadCtx offset size) h f e = f.0
offset_fits maps (C.LoadPacket offset size) h f e = f.0
offset_fits maps (C.CopyCtxToMem offset size) h f e = f.0
offset_fits maps C.NullCheck h f e = record { sfits = omega arith }
offset_fits maps (C.Binary op) h f e = record { sfits = omega arith }
offset_fits maps (C.CallMap m) h f e = record { sfits = omega arith }
offset_fits maps (C.UpdateMap m) h f e = record { sfits = omega arith }
offset_fits maps (C.RingBufReserve m size) h f e = let few : m < 2 ^ 31 = omega (arith, ltb-true m maps e) in rw (to_z_pos w32 m few) (record { sfits = few })
offset_fits maps (C.RingBufSubmit m) h f e = record { sfits = omega arith }

-- ---- the kind of a record is the one due

due_kind : (r : Record) → kind_due (due_of r) (kind_of r) ≡ true
unfolding kind_due due_of kind_of
due_kind (R.Head h) = refl
due_kind (R.Map start len) = refl
due_kind (R.Block id) = refl
due_kind (R.Instruction i) = refl
due_kind (R.Terminator t) = refl

kind_fits : (r : Record) → Fits w16 (kind_of r)
unfolding kind_of
kind_fits (R.Head h) = record { fits = omega arith }
kind_fits (R.Map start len) = record { fits = omega arith }
kind_fits (R.Block id) = record { fits = omega arith }
kind_fits (R.Instruction i) = record { fits = omega arith }
kind_fits (R.Terminator t) = record { fits = omega arith }

module _ (b : List ℕ) where
  -- ---- operands

  pub operand_read : {i k : ℕ} (o : Operand) → TypedOperand o → Holds b i k (operand_bytes o) → operand_at b i ≡ Some o
  unfolding operand_bytes operand_at
  operand_read {i} {k} (Var v) f h =
      let tag = byte_there 0 h in
      let tail = second (0 ∷ []) (unsigned_bytes w32 v ++ unsigned_bytes w32 0) 1 refl h in
      let var = unsigned_there w32 v f (first (unsigned_bytes w32 v) (unsigned_bytes w32 0) 4 (unsigned_length w32 v) tail) in
      let rest = unsigned_there w32 0 (record { fits = omega arith }) (second (0 ∷ unsigned_bytes w32 v) (unsigned_bytes w32 0) 5 (ap suc (unsigned_length w32 v)) h) in
      let room = le-leb (i + 9) (length b) (omega (arith, h.room, h.size, operand_length (Var v))) in
      rw (room, tag, rest, var)
  operand_read {i} {k} (Immediate z) f h =
      let tag = byte_there 1 h in
      let value = signed_there w64 z f (second (1 ∷ []) (signed_bytes w64 z) 1 refl h) in
      let room = le-leb (i + 9) (length b) (omega (arith, h.room, h.size, operand_length (Immediate z))) in
      rw (room, tag, value)

  pub operands_read : {i k : ℕ} (l m : Operands) (os : List Operand) → list_of m ≡ list_of l ++ os → TypedOperands os → Holds b i k (operands_bytes os) → operands_at l b i (length os) ≡ Some m
  unfolding operands_bytes operands_at on_operand
  operands_read l m [] e f h = ap Some (list_of_injective l m (sym (e ∙ append-nil (list_of l))))
  operands_read {i} l m (o ∷ os) e f h =
      let n = ap length e in
      let few : length (list_of l) < 8 = omega (arith, simp length-append at n, at_most_eight m) in
      rw (operand_read o f.0 (first (operand_bytes o) (operands_bytes os) 9 (operand_length o) h))
      (operands_read {i = i + 9} (pushed l o) m os (e ∙ sym (append_assoc (list_of l) (o ∷ []) os) ∙ ap (λ (x : List Operand). x ++ os) (sym (pushed_last l o few))) f.1
      (second (operand_bytes o) (operands_bytes os) 9 (operand_length o) h))

  -- ---- instructions

  -- four bytes
  pub record Four (i c s k z : ℕ) : Type 0 where
    pub one : get_or b i 0 ≡ c
    pub two : get_or b (i + 1) 0 ≡ s
    pub three : get_or b (i + 2) 0 ≡ k
    pub four : get_or b (i + 3) 0 ≡ z

  four_there : {i n : ℕ} (c s k z : ℕ) → Holds b i n (c ∷ s ∷ k ∷ z ∷ []) → Four i c s k z
  four_there c s k z h =
      record {
        one = byte_there c h;
        two = byte_there s (second (c ∷ []) (s ∷ k ∷ z ∷ []) 1 refl h);
        three = byte_there k (second (c ∷ s ∷ []) (k ∷ z ∷ []) 2 refl h);
        four = byte_there z (second (c ∷ s ∷ k ∷ []) (z ∷ []) 3 refl h);
      }

  further : (i j k : ℕ) {x : ℕ} → get_or b (i + j + k) 0 ≡ x → get_or b (i + (j + k)) 0 ≡ x
  further i j k e = rw (← add_assoc) e

  module _ {at n : ℕ} (result : ℕ) (f : Fields) (os : List Operand) (h : Holds b at n (instruction_bytes result f os)) where
    module _ (u : Fits w32 result) (z : SFits w32 f.offset) (v : Fits w32 f.number) where
      pub record Parts : Type 0 where
        pub result_there : unsigned_at w32 b at ≡ result
        pub fields_there : fields_in b at ≡ f
        pub count_there : count_in b at ≡ length os
        pub zero_there : get_or b (at + 7) 0 ≡ 0
        pub operands_there : Holds b (at + 16) (length (operands_bytes os)) (operands_bytes os)

      instruction_parts : Parts
      unfolding instruction_bytes fields_in count_in
      instruction_parts =
          let a = unsigned_bytes w32 result in
          let m = f.code ∷ f.small ∷ length os ∷ 0 ∷ [] in
          let o = signed_bytes w32 f.offset in
          let d = unsigned_bytes w32 f.number in
          let four = first (a ++ m ++ o ++ d) (operands_bytes os) 16 (simp (length-append, unsigned_length, signed_length)) h in
          let three = first (a ++ m ++ o) d 12 (simp (length-append, unsigned_length, signed_length)) four in
          let two = first (a ++ m) o 8 (simp (length-append, unsigned_length)) three in
          let bytes = four_there f.code f.small (length os) 0 (second a m 4 (unsigned_length w32 result) two) in
          let small = further at 4 1 bytes.two in
          let offset = signed_there w32 f.offset z (second (a ++ m) o 8 (simp (length-append, unsigned_length)) three) in
          let number = unsigned_there w32 f.number v (second (a ++ m ++ o) d 12 (simp (length-append, unsigned_length, signed_length)) four) in
          record {
            result_there = unsigned_there w32 result u (first a m 4 (unsigned_length w32 result) two);
            fields_there = rw (bytes.one, small, offset, number);
            count_there = further at 4 2 bytes.three;
            zero_there = further at 4 3 bytes.four;
            operands_there = second (a ++ m ++ o ++ d) (operands_bytes os) 16 (simp (length-append, unsigned_length, signed_length)) h;
          }

  pub instruction_read : {at n : ℕ} (maps : ℕ) (i : Instruction) → Fits w16 maps → Typed (R.Instruction i) → map_ok maps i.opcode ≡ true → Holds b at n (instruction_bytes i.result (fields_of i.opcode) (list_of i.operands)) → instruction_at b at n maps ≡ Some i
  unfolding instruction_at sized joined list_of
  instruction_read {at} {n} maps i m t e h =
      let os = list_of i.operands in
      let parts = instruction_parts i.result (fields_of i.opcode) os h t.0 (offset_fits maps i.opcode m t.1 e) (number_fits i.opcode t.1) in
      let l : n ≡ 16 + 9 * length os = sym h.size ∙ instruction_length i.result (fields_of i.opcode) os in
      rw (l, parts.count_there, parts.zero_there, le-leb 16 (16 + 9 * length os) (omega arith), le-leb (length os) 8 (at_most_eight i.operands), eq-eqb (16 + 9 * length os) (16 + 9 * length os) refl)
      (rw (parts.result_there, parts.fields_there, opcode_written maps i.opcode (omega (arith, m)) e, operands_read Zero i.operands os refl t.2 parts.operands_there))

  -- ---- terminators

  pub terminator_read : {at n : ℕ} (t : Terminator) → TypedTerminator t → Holds b at n (terminator_bytes t) → terminator_at b at n ≡ Some t
  unfolding terminator_at terminator_bytes returning branching
  terminator_read {at} {n} (Return o) f h =
      let l : n ≡ 10 = sym h.size ∙ return_length {o = o} refl in
      rw (l, byte_there 0 h, operand_read o f (second (0 ∷ []) (operand_bytes o) 1 refl h))
  terminator_read {at} {n} (Jump target) f h =
      let l : n ≡ 5 = sym h.size ∙ jump_length {target = target} refl in
      rw (l, byte_there 1 h, unsigned_there w32 target f (second (1 ∷ []) (unsigned_bytes w32 target) 1 refl h))
  terminator_read {at} {n} (Branch o to other) f h =
      let l : n ≡ 18 = sym h.size ∙ branch_length {o = o} {to = to} {other = other} refl in
      let a = unsigned_bytes w32 to in
      let d = unsigned_bytes w32 other in
      let most = first (2 ∷ operand_bytes o ++ a) d 14 (simp (length-append, operand_length, unsigned_length)) h in
      let front = first (2 ∷ operand_bytes o) a 10 (ap suc (operand_length o)) most in
      let condition = operand_read o f.0 (second (2 ∷ []) (operand_bytes o) 1 refl front) in
      let yes = unsigned_there w32 to f.1 (second (2 ∷ operand_bytes o) a 10 (ap suc (operand_length o)) most) in
      let no = unsigned_there w32 other f.2 (second (2 ∷ operand_bytes o ++ a) d 14 (simp (length-append, operand_length, unsigned_length)) h) in
      rw (l, byte_there 2 h, condition, yes, no)

  -- ---- payloads

  head_there : {at n : ℕ} (names : List ℕ) (h : Head) → Typed (R.Head h) → Holds b at n (payload_bytes names (R.Head h)) → head_in b at ≡ h
  unfolding head_in payload_bytes
  head_there names h f g =
      let e = unsigned_bytes w16 h.edition in
      let m = unsigned_bytes w16 h.maps in
      let k = unsigned_bytes w32 h.blocks in
      let front = first (e ++ m) k 4 (simp (length-append, unsigned_length)) g in
      let edition = unsigned_there w16 h.edition f.0 (first e m 2 (unsigned_length w16 h.edition) front) in
      let maps = unsigned_there w16 h.maps f.1 (second e m 2 (unsigned_length w16 h.edition) front) in
      let blocks = unsigned_there w32 h.blocks f.2 (second (e ++ m) k 4 (simp (length-append, unsigned_length)) g) in
      rw (edition, maps, blocks)

  pub payload_read : {at n : ℕ} (maps : ℕ) (names : List ℕ) (r : Record) → Fits w16 maps → Typed r → valid maps names r ≡ true → Holds b at n (payload_bytes names r) → payload_at (kind_of r) b at n maps ≡ Some (placed at r)
  unfolding payload_at kind_of placed valid payload_bytes of_instruction of_terminator
  payload_read {at} {n} maps names (R.Head x) m f e h =
      let l : n ≡ 8 = sym h.size ∙ head_length names x in
      rw (l, head_there names x f h, e)
  payload_read {at} {n} maps names (R.Map start len) m f e h =
      let told = name_told start len (length names) e in
      let l : n ≡ len = sym h.size ∙ part_length len start names told.0 in
      rw (l, le-leb len 64 told.1)
  payload_read {at} {n} maps names (R.Block id) m f e h =
      let l : n ≡ 4 = sym h.size ∙ unsigned_length w32 id in
      rw (l, unsigned_there w32 id f h)
  payload_read maps names (R.Instruction i) m f e h = rw (instruction_read maps i m f e h)
  payload_read maps names (R.Terminator t) m f e h = rw (terminator_read t f h)

  -- ---- records

  pub record_read : {at n : ℕ} (maps : ℕ) (names : List ℕ) (r : Record) → Fits w16 maps → Typed r → valid maps names r ≡ true → Holds b at n (record_bytes names r) → read_record b at (due_of r) maps ≡ Ok (placed (at + 4) r, at + n)
  unfolding read_record whole_at next_at on_payload record_bytes
  record_read {at} {n} maps names r m f e h =
      let v = payload_bytes names r in
      let s = length v in
      let a = unsigned_bytes w16 s in
      let k = unsigned_bytes w16 (kind_of r) in
      let l : n ≡ 4 + s = sym h.size ∙ record_length names r in
      let front = first (a ++ k) v 4 (simp (length-append, unsigned_length)) h in
      let size = unsigned_there w16 s (record { fits = omega (arith, payload_small maps names r e) }) (first a k 2 (unsigned_length w16 s) front) in
      let kind = unsigned_there w16 (kind_of r) (kind_fits r) (second a k 2 (unsigned_length w16 s) front) in
      let payload = payload_read maps names r m f e (second (a ++ k) v 4 (simp (length-append, unsigned_length)) h) in
      rw (size, kind, le-leb (at + 4) (length b) (omega (arith, h.room)), le-leb (at + 4 + s) (length b) (omega (arith, h.room)), due_kind r, payload)
      (ap (λ (n : ℕ). Ok (placed (at + 4) r, n)) (omega arith))

-- wherever its bytes stand, the record is read, with a map's name where it now lies, and what follows it is next
pub read_after_write : (p q names : List ℕ) (maps : ℕ) (r : Record) → Fits w16 maps → Typed r → valid maps names r ≡ true → read_record (p ++ record_bytes names r ++ q) (length p) (due_of r) maps ≡ Ok (placed (length p + 4) r, length p + length (record_bytes names r))
read_after_write p q names maps r m f e = record_read (p ++ record_bytes names r ++ q) maps names r m f e (stands p (record_bytes names r) q)
