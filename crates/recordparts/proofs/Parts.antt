-- The parts of a record's value, read off its payload.
use mathlib.Core.Path.{◌≡◌, refl, sym, ap, ◌∙◌, subst}
use mathlib.Core.Bool.{Bool, true, false}
use mathlib.Core.List.{List}
use Prim.Native.Nat.{ℕ, ◌+◌, ◌*◌, ◌≤◌}
use native.Mathlib.Omega.{arith}
use borrow.Author.Tests.{eqb-true, leb-true}
use lib.Dec.{eqb, leb}
use lib.ListN.{length, get_or-eq_default}
use mir.Syntax.{w32}
use Rattle.wire.specs.Pick.{pick, both}
use Rattle.wire.specs.Le.{byte_at, unsigned_at}
use Rattle.ir.specs.declared.Instruction.{Instruction}
use Rattle.ir.specs.declared.Operand.{Operand}
use Rattle.ir.specs.declared.Operand.TheVariants.{Var}
use Rattle.ir.specs.declared.Terminator.{Terminator}
use Rattle.ir.specs.declared.Terminator.TheVariants.{Return, Jump, Branch}
use Rattle.ir.specs.declared.operands.Operands.TheVariants.{Zero}
use Rattle.opcode.specs.Opcode.{opcode_of, opcode_in}
use Rattle.opcode.proofs.Opcodes.{both_true, opcode_read}
use Rattle.operand.specs.Operand.{operand_at, operands_at}
use Rattle.operand.proofs.OperandIn.{operand_read, operand_out}
use Rattle.record.specs.Instruction.{fields_in, count_in, joined, sized, instruction_at}
use Rattle.record.specs.Terminator.{returning, branching, terminator_at, terminator_size}
use Rattle.record.specs.Payload.{of_instruction, of_terminator, payload_at, kind_of}
use Rattle.record.specs.declared.Record.TheVariants as R
use Rattle.record.proofs.RecordLaws.{either}
use Rattle.record.proofs.OfKind.{kind_of_lem}
use Rattle.recordparts.specs.Terminator.{terminator_in}
use Rattle.ir.specs.declared.Opcode.{Opcode}
use Rattle.ir.specs.declared.operands.Operands.{Operands}
use Rattle.std.specs.Prelude.{None, Option, Some}

-- ---- a block

module _ (b : List ℕ) (at len maps : ℕ) where
  block_id : (id : ℕ) → payload_at 3 b at len maps ≡ Some (R.Block id) → id ≡ unsigned_at w32 b at
  unfolding payload_at
  block_id id e = go (eqb len 4) e
    where
      go : (t : Bool) → pick t (Some (R.Block (unsigned_at w32 b at))) None ≡ Some (R.Block id) → id ≡ unsigned_at w32 b at
      go true e = cc
      go false e = let z : ◌≡◌ {A = ℕ} 0 1 = cc in absurd (omega arith)

  pub block_part : (kind id : ℕ) → payload_at kind b at len maps ≡ Some (R.Block id) → id ≡ unsigned_at w32 b at
  unfolding kind_of
  block_part kind id e = block_id id (subst (λ (k : ℕ). payload_at k b at len maps ≡ Some (R.Block id)) (sym (kind_of_lem kind b at len maps (R.Block id) e)) e)

-- ---- an instruction

-- the parts of the instruction i in a payload of len bytes
pub record Instructed (b : List ℕ) (at len : ℕ) (i : Instruction) : Type 0 where
  pub result : i.result ≡ unsigned_at w32 b at
  pub opcode : i.opcode ≡ opcode_in (fields_in b at)
  pub operands : operands_at Zero b (at + 16) (count_in b at) ≡ Some i.operands
  pub few : count_in b at ≤ 8
  pub size : len ≡ 16 + 9 * count_in b at

module _ (b : List ℕ) (at len maps : ℕ) (i : Instruction) where
  record Parts (x : Option Instruction) : Type 0 where
    parts : x ≡ Some i → Instructed b at len i

  no_parts : Parts None
  no_parts = record { parts = λ e. let z : ◌≡◌ {A = ℕ} 0 1 = cc in absurd (omega arith) }

  joined_parts : sized b at len ≡ true → (o : Option Opcode) → opcode_of (fields_in b at) maps ≡ o → (l : Option Operands) → operands_at Zero b (at + 16) (count_in b at) ≡ l → Parts (joined (unsigned_at w32 b at) o l)
  unfolding joined sized
  joined_parts h (Some o) p (Some l) q =
      let few = both_true (leb (count_in b at) 8) _ (both_true (leb 16 len) _ h).1 in
      let size = both_true (eqb len (16 + 9 * count_in b at)) _ few.1 in
      record {
        parts = λ e.
            let s : record { result = unsigned_at w32 b at; opcode = o; operands = l } ≡ i = cc in
            record {
              result = sym (ap (λ (x : Instruction). x.result) s);
              opcode = sym (opcode_read (fields_in b at) maps o p ∙ ap (λ (x : Instruction). x.opcode) s);
              operands = q ∙ ap (λ (x : Instruction). Some x.operands) s;
              few = leb-true _ _ few.0;
              size = eqb-true _ _ size.0;
            };
      }
  joined_parts h (Some o) p None q = no_parts
  joined_parts h None p (Some l) q = no_parts
  joined_parts h None p None q = no_parts

  instruction_parts : Parts (instruction_at b at len maps)
  unfolding instruction_at
  instruction_parts = either Parts (sized b at len) _ _ (λ h. joined_parts h _ refl _ refl) no_parts

  of_parts : (x : Option Instruction) → Parts x → of_instruction x ≡ Some (R.Instruction i) → Instructed b at len i
  unfolding of_instruction
  of_parts (Some j) h e = let s : j ≡ i = cc in h.parts (ap Some s)
  of_parts None h e = let z : ◌≡◌ {A = ℕ} 0 1 = cc in absurd (omega arith)

  instruction_in_lem : payload_at 4 b at len maps ≡ Some (R.Instruction i) → Instructed b at len i
  unfolding payload_at
  instruction_in_lem e = of_parts _ instruction_parts e

  pub instruction_part : (kind : ℕ) → payload_at kind b at len maps ≡ Some (R.Instruction i) → Instructed b at len i
  unfolding kind_of
  instruction_part kind e = instruction_in_lem (subst (λ (k : ℕ). payload_at k b at len maps ≡ Some (R.Instruction i)) (sym (kind_of_lem kind b at len maps (R.Instruction i) e)) e)

-- ---- a terminator

-- past the end every byte is 0
pub terminator_out : (b : List ℕ) (at : ℕ) → length b ≤ at → terminator_in b at ≡ Return (Var 0)
unfolding terminator_in
terminator_out b at h = rw (get_or-eq_default b 0 {n = at} h) (ap Return (operand_out b (at + 1) (omega arith)))

-- the terminator t in a payload of len bytes
pub record Terminated (b : List ℕ) (at len : ℕ) (t : Terminator) : Type 0 where
  pub value : terminator_in b at ≡ t
  pub size : len ≡ terminator_size t

module _ (b : List ℕ) (at len : ℕ) (t : Terminator) where
  record Ending (x : Option Terminator) : Type 0 where
    ending : x ≡ Some t → Terminated b at len t

  no_ending : Ending None
  no_ending = record { ending = λ e. let z : ◌≡◌ {A = ℕ} 0 1 = cc in absurd (omega arith) }

  is_ending : (u : Terminator) → terminator_in b at ≡ u → len ≡ terminator_size u → Ending (Some u)
  is_ending u p q = record { ending = λ e. let s : u ≡ t = cc in record { value = p ∙ s; size = q ∙ ap terminator_size s } }

  returning_ends : byte_at b at ≡ 0 → len ≡ 10 → (x : Option Operand) → operand_at b (at + 1) ≡ x → Ending (returning x)
  unfolding returning terminator_in terminator_size
  returning_ends f l (Some o) p = is_ending (Return o) (rw f (ap Return (operand_read b (at + 1) o p))) l
  returning_ends f l None p = no_ending

  jumping_ends : byte_at b at ≡ 1 → len ≡ 5 → Ending (Some (Jump (unsigned_at w32 b (at + 1))))
  unfolding terminator_in terminator_size
  jumping_ends f l = is_ending (Jump (unsigned_at w32 b (at + 1))) (rw f refl) l

  branching_ends : byte_at b at ≡ 2 → len ≡ 18 → (x : Option Operand) → operand_at b (at + 1) ≡ x → Ending (branching x (unsigned_at w32 b (at + 10)) (unsigned_at w32 b (at + 14)))
  unfolding branching terminator_in terminator_size
  branching_ends f l (Some o) p =
      is_ending (Branch o (unsigned_at w32 b (at + 10)) (unsigned_at w32 b (at + 14))) (rw f (ap (λ (x : Operand). Branch x (unsigned_at w32 b (at + 10)) (unsigned_at w32 b (at + 14))) (operand_read b (at + 1) o p))) l
  branching_ends f l None p = no_ending

  formed : (n k : ℕ) → both (eqb len n) (eqb (byte_at b at) k) ≡ true → (byte_at b at ≡ k) × (len ≡ n)
  formed n k e = let h = both_true (eqb len n) (eqb (byte_at b at) k) e in (eqb-true _ _ h.1, eqb-true _ _ h.0)

  terminator_ends : Ending (terminator_at b at len)
  unfolding terminator_at
  terminator_ends =
      either Ending (both (eqb len 10) (eqb (byte_at b at) 0)) _ _ (λ h. returning_ends (formed 10 0 h).0 (formed 10 0 h).1 _ refl)
      (either Ending (both (eqb len 5) (eqb (byte_at b at) 1)) _ _ (λ h. jumping_ends (formed 5 1 h).0 (formed 5 1 h).1)
      (either Ending (both (eqb len 18) (eqb (byte_at b at) 2)) _ _ (λ h. branching_ends (formed 18 2 h).0 (formed 18 2 h).1 _ refl) no_ending))

  of_ending : (x : Option Terminator) → Ending x → of_terminator x ≡ Some (R.Terminator t) → Terminated b at len t
  unfolding of_terminator
  of_ending (Some u) h e = let s : u ≡ t = cc in h.ending (ap Some s)
  of_ending None h e = let z : ◌≡◌ {A = ℕ} 0 1 = cc in absurd (omega arith)

  terminator_here : (maps : ℕ) → payload_at 5 b at len maps ≡ Some (R.Terminator t) → Terminated b at len t
  unfolding payload_at
  terminator_here maps e = of_ending _ terminator_ends e

  pub terminator_part : (maps kind : ℕ) → payload_at kind b at len maps ≡ Some (R.Terminator t) → Terminated b at len t
  unfolding kind_of
  terminator_part maps kind e = terminator_here maps (subst (λ (k : ℕ). payload_at k b at len maps ≡ Some (R.Terminator t)) (sym (kind_of_lem kind b at len maps (R.Terminator t) e)) e)
