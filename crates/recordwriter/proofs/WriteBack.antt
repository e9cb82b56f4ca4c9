-- What was read is written: a record that the reader found has the bytes that it was read from.
use mathlib.Core.Path.{◌≡◌, refl, sym, ap, ◌∙◌, subst}
use mathlib.Core.Bool.{true}
use mathlib.Core.List.{List, [], ◌∷◌, ◌++◌, append-nil, append_assoc}
use Prim.Native.Nat.{ℕ, zero, suc, ◌+◌, ◌*◌, ◌-◌, ◌≤◌}
use native.Mathlib.Omega.{arith}
use borrow.Author.Tests.{eqb-true, leb-true, le-leb}
use lib.Dec.{eqb, leb}
use lib.ListN.{length, get_or, take, drop, length-append}
use mir.Syntax.{w16, w32, w64}
use Rattle.wire.specs.Pick.{pick, both}
use Rattle.wire.specs.Le.{Bytes, unsigned_at}
use Rattle.ir.specs.Operands.{list_of, pushed}
use Rattle.ir.specs.declared.Operand.{Operand}
use Rattle.ir.specs.declared.Instruction.{Instruction}
use Rattle.ir.specs.declared.Terminator.{Terminator}
use Rattle.ir.specs.declared.operands.Operands.{Operands}
use Rattle.ir.specs.declared.operands.Operands.TheVariants.{Zero}
use Rattle.ir.proofs.OperandLaws.{pushed_last}
use Rattle.opcode.specs.Opcode.{fields_of, map_ok, opcode_of}
use Rattle.opcode.proofs.Opcodes.{both_true, opcode_has}
use Rattle.operand.specs.Operand.{operand_at, on_operand, operands_at, operand_bytes, operands_bytes}
use Rattle.record.specs.Instruction.{fields_in, count_in, sized, joined, instruction_at}
use Rattle.record.specs.Terminator.{returning, branching, terminator_at}
use Rattle.record.specs.Payload.{head_in, head_ok, of_instruction, of_terminator, payload_at, kind_of}
use Rattle.record.specs.Frame.{length_at, kind_at, next_at}
use Rattle.record.specs.Record.{read_record}
use Rattle.record.specs.declared.Due.{Due}
use Rattle.record.specs.declared.Record.{Record}
use Rattle.opcode.specs.declared.Fields.{Fields}
use Rattle.record.proofs.RecordLaws.{record_taken}
use Rattle.payloadwriter.specs.Payloads.{instruction_bytes, terminator_bytes}
use Rattle.recordwriter.specs.Bytes.{payload_bytes, record_bytes}
use Rattle.recordwriter.specs.Written.{valid}
use Rattle.recordwriter.proofs.Length.{part_length}
use Rattle.payloadwriter.proofs.Pieces.{instruction_pieces}
use Rattle.recordwriter.proofs.Valid.{either}
use Rattle.recordwriter.proofs.Holds.{Holds, turned, ◌▹◌, byte_holds, unsigned_holds, signed_holds}
use Rattle.ir.specs.declared.Opcode.{Opcode}
use Rattle.std.specs.Prelude.{None, Ok, Option, Some}

module _ (b : List ℕ) (bytes : Bytes b) where
  -- ---- operands

  abbrev IfOperand : ℕ → Option Operand → Type 0
  IfOperand i (Some o) = Holds b i 9 (operand_bytes o)
  IfOperand i None = Unit {0}

  record OneOperand (i : ℕ) (x : Option Operand) : Type 0 where
    operand : IfOperand i x

  one_operand : (i : ℕ) → i + 9 ≤ length b → OneOperand i (operand_at b i)
  unfolding operand_at operand_bytes
  one_operand i room =
      either (OneOperand i) (leb (i + 9) (length b)) _ _
      (λ _. either (OneOperand i) (eqb (get_or b i 0) 0) _ _
      (λ tag. either (OneOperand i) (eqb (unsigned_at w32 b (i + 5)) 0) _ _
      (λ rest. record {
        operand =
            byte_holds b i (omega arith) (eqb-true _ _ tag)
            ▹ unsigned_holds w32 b (i + 1) bytes (omega arith) refl
            ▹ unsigned_holds w32 b (i + 5) bytes (omega arith) (eqb-true _ _ rest);
      })
      (λ rest. record { operand = tt }))
      (λ _. either (OneOperand i) (eqb (get_or b i 0) 1) _ _
      (λ tag. record { operand = byte_holds b i (omega arith) (eqb-true _ _ tag) ▹ signed_holds w64 b (i + 1) bytes (omega arith) refl })
      (λ _. record { operand = tt })))
      (λ _. record { operand = tt })

  operand_written : (i : ℕ) (o : Operand) → i + 9 ≤ length b → operand_at b i ≡ Some o → Holds b i 9 (operand_bytes o)
  operand_written i o room e = (subst (OneOperand i) e (one_operand i room)).operand

  -- the operands l, and the k from i on, are m
  record More (l m : Operands) (i k : ℕ) : Type 0 where
    os : List Operand
    all : list_of m ≡ list_of l ++ os
    count : length os ≡ k
    there : Holds b i (9 * k) (operands_bytes os)

  one_more_lem : (k i : ℕ) (l m : Operands) → i + 9 * suc k ≤ length b → length (list_of l) + suc k ≤ 8 → ((o : Operand) → list_of (pushed l o) ≡ list_of l ++ (o ∷ []) → operands_at (pushed l o) b (i + 9) k ≡ Some m → More (pushed l o) m (i + 9) k) → (x : Option Operand) → operand_at b i ≡ x → on_operand x (λ o. operands_at (pushed l o) b (i + 9) k) ≡ Some m → More l m i (suc k)
  unfolding on_operand operands_bytes
  one_more_lem k i l m room few rest (Some o) p e =
      let last = pushed_last l o (omega arith) in
      let r = rest o last e in
      record {
        os = o ∷ r.os;
        all = r.all ∙ ap (λ (x : List Operand). x ++ r.os) last ∙ append_assoc (list_of l) (o ∷ []) r.os;
        count = ap suc r.count;
        there = turned (omega arith) refl (operand_written i o (omega arith) p ▹ r.there);
      }
  one_more_lem k i l m room few rest None p e = let z : ◌≡◌ {A = ℕ} 0 1 = cc in absurd (omega arith)

  operands_written : (k i : ℕ) (l m : Operands) → i + 9 * k ≤ length b → length (list_of l) + k ≤ 8 → operands_at l b i k ≡ Some m → More l m i k
  unfolding operands_at operands_bytes
  operands_written zero i l m room few e =
      let same : l ≡ m = cc in
      record { os = []; all = ap list_of (sym same) ∙ sym (append-nil (list_of l)); count = refl; there = record { size = refl; room = room; same = refl } }
  operands_written (suc k) i l m room few e =
      one_more_lem k i l m room few
      (λ o last f. operands_written k (i + 9) (pushed l o) m (omega arith) (omega (arith, ap length last, length-append (list_of l) (o ∷ []))) f)
      (operand_at b i) refl e

  -- ---- instructions

  record Whole (at len maps : ℕ) (i : Instruction) : Type 0 where
    there : Holds b at len (instruction_bytes i.result (fields_of i.opcode) (list_of i.operands))
    map : map_ok maps i.opcode ≡ true

  abbrev IfInstruction : ℕ → ℕ → ℕ → Option Instruction → Type 0
  IfInstruction at len maps (Some i) = Whole at len maps i
  IfInstruction at len maps None = Unit {0}

  record OneInstruction (at len maps : ℕ) (x : Option Instruction) : Type 0 where
    instruction : IfInstruction at len maps x

  module _ (at len maps : ℕ) (room : at + len ≤ length b) where
    -- the tests of a payload's size
    record Right : Type 0 where
      few : count_in b at ≤ 8
      exact : 16 + 9 * count_in b at ≡ len
      zeroed : get_or b (at + 7) 0 ≡ 0

    right : sized b at len ≡ true → Right
    unfolding sized
    right e =
        let one = (both_true (leb 16 len) _ e).1 in
        let two = (both_true (leb (count_in b at) 8) _ one).1 in
        record {
          few = leb-true _ _ (both_true _ (both (eqb len (16 + 9 * count_in b at)) (eqb (get_or b (at + 7) 0) 0)) one).0;
          exact = sym (eqb-true _ _ (both_true _ (eqb (get_or b (at + 7) 0) 0) two).0);
          zeroed = eqb-true _ _ (both_true (eqb len (16 + 9 * count_in b at)) _ two).1;
        }

    joined_written : Right → (x : Option Opcode) (y : Option Operands) → opcode_of (fields_in b at) maps ≡ x → operands_at Zero b (at + 16) (count_in b at) ≡ y → OneInstruction at len maps (joined (unsigned_at w32 b at) x y)
    unfolding joined fields_in count_in list_of
    joined_written t (Some o) (Some l) p q =
        let same = opcode_has (fields_in b at) maps o p in
        let more = operands_written (count_in b at) (at + 16) Zero l (omega (arith, t.exact)) (omega (arith, t.few)) q in
        let pieces =
        unsigned_holds w32 b at bytes (omega (arith, t.exact)) refl
        ▹ byte_holds b (at + 4) (omega (arith, t.exact)) (ap (λ (f : Fields). f.code) (sym same.fields))
        ▹ byte_holds b (at + 5) (omega (arith, t.exact)) (ap (λ (f : Fields). f.small) (sym same.fields))
        ▹ byte_holds b (at + 6) (omega (arith, t.exact)) refl
        ▹ byte_holds b (at + 7) (omega (arith, t.exact)) t.zeroed
        ▹ signed_holds w32 b (at + 8) bytes (omega (arith, t.exact)) (ap (λ (f : Fields). f.offset) (sym same.fields))
        ▹ unsigned_holds w32 b (at + 12) bytes (omega (arith, t.exact)) (ap (λ (f : Fields). f.number) (sym same.fields))
        ▹ more.there in
        record { instruction = record { there = turned t.exact (instruction_pieces _ (fields_of o) _ more.os (sym more.count) ∙ ap (instruction_bytes _ (fields_of o)) (sym more.all)) pieces; map = same.map } }
    joined_written t (Some o) None p q = record { instruction = tt }
    joined_written t None (Some l) p q = record { instruction = tt }
    joined_written t None None p q = record { instruction = tt }

    one_instruction : OneInstruction at len maps (instruction_at b at len maps)
    unfolding instruction_at
    one_instruction = either (OneInstruction at len maps) (sized b at len) _ _ (λ e. joined_written (right e) _ _ refl refl) (λ e. record { instruction = tt })

  instruction_written : (at len maps : ℕ) (i : Instruction) → at + len ≤ length b → instruction_at b at len maps ≡ Some i → Whole at len maps i
  instruction_written at len maps i room e = (subst (OneInstruction at len maps) e (one_instruction at len maps room)).instruction

  -- ---- terminators

  abbrev IfTerminator : ℕ → ℕ → Option Terminator → Type 0
  IfTerminator at len (Some t) = Holds b at len (terminator_bytes t)
  IfTerminator at len None = Unit {0}

  record OneTerminator (at len : ℕ) (x : Option Terminator) : Type 0 where
    terminator : IfTerminator at len x

  module _ (at len : ℕ) (room : at + len ≤ length b) where
    form : (n k : ℕ) → both (eqb len n) (eqb (get_or b at 0) k) ≡ true → (n ≡ len) × (get_or b at 0 ≡ k)
    form n k e = (sym (eqb-true _ _ (both_true _ (eqb (get_or b at 0) k) e).0), eqb-true _ _ (both_true (eqb len n) _ e).1)

    return_written : (n : 10 ≡ len) → get_or b at 0 ≡ 0 → (x : Option Operand) → operand_at b (at + 1) ≡ x → OneTerminator at len (returning x)
    unfolding returning terminator_bytes
    return_written n k (Some o) p = record { terminator = turned n refl (byte_holds b at (omega arith) k ▹ operand_written (at + 1) o (omega arith) p) }
    return_written n k None p = record { terminator = tt }

    branch_written : (n : 18 ≡ len) → get_or b at 0 ≡ 2 → (x : Option Operand) → operand_at b (at + 1) ≡ x → OneTerminator at len (branching x (unsigned_at w32 b (at + 10)) (unsigned_at w32 b (at + 14)))
    unfolding branching terminator_bytes
    branch_written n k (Some o) p =
        record {
          terminator =
              turned n refl
              (byte_holds b at (omega arith) k
              ▹ operand_written (at + 1) o (omega arith) p
              ▹ unsigned_holds w32 b (at + 10) bytes (omega arith) refl
              ▹ unsigned_holds w32 b (at + 14) bytes (omega arith) refl);
        }
    branch_written n k None p = record { terminator = tt }

    one_terminator : OneTerminator at len (terminator_at b at len)
    unfolding terminator_at terminator_bytes
    one_terminator =
        either (OneTerminator at len) (both (eqb len 10) (eqb (get_or b at 0) 0)) _ _ (λ e. return_written (form 10 0 e).0 (form 10 0 e).1 _ refl)
        (λ _. either (OneTerminator at len) (both (eqb len 5) (eqb (get_or b at 0) 1)) _ _
        (λ e.
        let n = (form 5 1 e).0 in
        record { terminator = turned n refl (byte_holds b at (omega arith) (form 5 1 e).1 ▹ unsigned_holds w32 b (at + 1) bytes (omega arith) refl) })
        (λ _. either (OneTerminator at len) (both (eqb len 18) (eqb (get_or b at 0) 2)) _ _ (λ e. branch_written (form 18 2 e).0 (form 18 2 e).1 _ refl) (λ _. record { terminator = tt })))

  terminator_written : (at len : ℕ) (t : Terminator) → at + len ≤ length b → terminator_at b at len ≡ Some t → Holds b at len (terminator_bytes t)
  terminator_written at len t room e = (subst (OneTerminator at len) e (one_terminator at len room)).terminator

  -- ---- payloads

  record Kept (kind at len maps : ℕ) (r : Record) : Type 0 where
    due : kind ≡ kind_of r
    there : Holds b at len (payload_bytes b r)
    rules : valid maps b r ≡ true

  abbrev IfPayload : ℕ → ℕ → ℕ → ℕ → Option Record → Type 0
  IfPayload kind at len maps (Some r) = Kept kind at len maps r
  IfPayload kind at len maps None = Unit {0}

  record OnePayload (kind at len maps : ℕ) (x : Option Record) : Type 0 where
    payload : IfPayload kind at len maps x

  module _ (kind at len maps : ℕ) (room : at + len ≤ length b) where
    nothing : OnePayload kind at len maps None
    nothing = record { payload = tt }

    of_instruction_lem : kind ≡ 4 → (x : Option Instruction) → instruction_at b at len maps ≡ x → OnePayload kind at len maps (of_instruction x)
    unfolding of_instruction kind_of payload_bytes valid
    of_instruction_lem k (Some i) p =
        let w = instruction_written at len maps i room p in
        record { payload = record { due = k; there = w.there; rules = w.map } }
    of_instruction_lem k None p = nothing

    of_terminator_lem : kind ≡ 5 → (x : Option Terminator) → terminator_at b at len ≡ x → OnePayload kind at len maps (of_terminator x)
    unfolding of_terminator kind_of payload_bytes valid
    of_terminator_lem k (Some t) p = record { payload = record { due = k; there = terminator_written at len t room p; rules = refl } }
    of_terminator_lem k None p = nothing

    one_payload : OnePayload kind at len maps (payload_at kind b at len maps)
    unfolding payload_at kind_of payload_bytes valid head_in
    one_payload =
        case 1 (λ k. either (OnePayload kind at len maps) (both (eqb len 8) (head_ok (head_in b at))) _ _
        (λ e.
        let n : 8 ≡ len = sym (eqb-true _ _ (both_true _ (head_ok (head_in b at)) e).0) in
        record {
          payload = record {
            due = k;
            there = turned n refl (unsigned_holds w16 b at bytes (omega arith) refl ▹ unsigned_holds w16 b (at + 2) bytes (omega arith) refl ▹ unsigned_holds w32 b (at + 4) bytes (omega arith) refl);
            rules = (both_true (eqb len 8) _ e).1;
          };
        })
        (λ _. nothing))
        (case 2 (λ k. either (OnePayload kind at len maps) (leb len 64) _ _
        (λ e. record { payload = record { due = k; there = record { size = part_length len at b room; room = room; same = refl }; rules = rw (le-leb (at + len) (length b) room) e } })
        (λ _. nothing))
        (case 3 (λ k. either (OnePayload kind at len maps) (eqb len 4) _ _
        (λ e.
        let n : 4 ≡ len = sym (eqb-true _ _ e) in
        record { payload = record { due = k; there = turned n refl (unsigned_holds w32 b at bytes (omega arith) refl); rules = refl } })
        (λ _. nothing))
        (case 4 (λ k. of_instruction_lem k _ refl) (case 5 (λ k. of_terminator_lem k _ refl) nothing))))
      where
        case : (k : ℕ) {x y : Option Record} → (kind ≡ k → OnePayload kind at len maps x) → OnePayload kind at len maps y → OnePayload kind at len maps (pick (eqb kind k) x y)
        case k g h = either (OnePayload kind at len maps) (eqb kind k) _ _ (λ e. g (eqb-true kind k e)) (λ _. h)

  payload_written : (kind at len maps : ℕ) (r : Record) → at + len ≤ length b → payload_at kind b at len maps ≡ Some r → Kept kind at len maps r
  payload_written kind at len maps r room e = (subst (OnePayload kind at len maps) e (one_payload kind at len maps room)).payload

-- ---- records

-- the bytes that a record was read from are its bytes, and the record may be written
pub write_after_read : (b : List ℕ) (at : ℕ) (due : Due) (maps : ℕ) (r : Record) (next : ℕ) → Bytes b → read_record b at due maps ≡ Ok (r, next) → (record_bytes b r ≡ take (next - at) (drop at b)) × (valid maps b r ≡ true)
unfolding record_bytes next_at
write_after_read b at due maps r next bytes e =
    let t = record_taken b at due maps r next e in
    let len = length_at b at in
    let ends : next ≡ at + 4 + len = t.ends in
    let kept = payload_written b bytes (kind_at b at) (at + 4) len maps r (omega (arith, t.within)) t.payload in
    let all =
    unsigned_holds w16 b at bytes (omega (arith, t.within)) (sym kept.there.size)
    ▹ unsigned_holds w16 b (at + 2) bytes (omega (arith, t.within)) kept.due
    ▹ kept.there in
    let span : 4 + len ≡ next - at = omega arith in
    (sym (turned span refl all).same, kept.rules)
