-- Where a record is read at a cursor, its kind and its value's parts stand in the bytes.
use mathlib.Core.Path.{◌≡◌, sym, subst}
use mathlib.Core.List.{List}
use Prim.Native.Nat.{ℕ, ◌+◌}
use native.Mathlib.Omega.{arith}
use mir.Syntax.{w32}
use Rattle.wire.specs.Le.{unsigned_at}
use Rattle.ir.specs.declared.Instruction.{Instruction}
use Rattle.ir.specs.declared.Terminator.{Terminator}
use Rattle.ir.specs.declared.operands.Operands.TheVariants.{Zero}
use Rattle.operand.specs.Operand.{operands_at}
use Rattle.operand.proofs.OperandIn.{operands_read}
use Rattle.record.specs.Frame.{length_at, kind_at, next_at}
use Rattle.record.specs.Instruction.{count_in}
use Rattle.record.specs.Payload.{kind_of}
use Rattle.record.specs.declared.Record.TheVariants as R
use Rattle.record.proofs.OfKind.{kind_of_lem}
use Rattle.unitfile.specs.Records.{Cursor, go, next_record}
use Rattle.unitfile.proofs.Run.{taken}
use Rattle.recordparts.specs.Stands.{InstructionAt, TerminatorAt}
use Rattle.recordparts.proofs.Parts.{block_part, instruction_part, terminator_part}
use Rattle.std.specs.Prelude.{Some}

module _ (b : List ℕ) (maps : ℕ) (c d : Cursor) where
  pub block_in : (id : ℕ) → next_record b maps c ≡ go (R.Block id) d → id ≡ unsigned_at w32 b (c.at + 4)
  block_in id e = block_part b (c.at + 4) (length_at b c.at) maps (kind_at b c.at) id (taken b maps c (R.Block id) d e).payload

  pub instruction_in_lem : (i : Instruction) → next_record b maps c ≡ go (R.Instruction i) d → InstructionAt b c.at i
  unfolding next_at kind_of
  instruction_in_lem i e =
      let t = taken b maps c (R.Instruction i) d e in
      let p = instruction_part b (c.at + 4) (length_at b c.at) maps i (kind_at b c.at) t.payload in
      let there : c.at + 4 + 16 ≡ c.at + 20 = omega arith in
      let o = subst (λ (x : ℕ). operands_at Zero b x (count_in b (c.at + 4)) ≡ Some i.operands) there p.operands in
      record {
        kind = sym (kind_of_lem (kind_at b c.at) b (c.at + 4) (length_at b c.at) maps (R.Instruction i) t.payload);
        result = p.result;
        opcode = p.opcode;
        operands = o;
        list = operands_read b (c.at + 20) (count_in b (c.at + 4)) i.operands p.few o;
        count = p.few;
        whole = omega (arith, t.within, t.ends, p.size);
      }

  pub terminator_in_lem : (t : Terminator) → next_record b maps c ≡ go (R.Terminator t) d → TerminatorAt b c.at t
  unfolding next_at kind_of
  terminator_in_lem t e =
      let k = taken b maps c (R.Terminator t) d e in
      let p = terminator_part b (c.at + 4) (length_at b c.at) t maps (kind_at b c.at) k.payload in
      record {
        kind = sym (kind_of_lem (kind_at b c.at) b (c.at + 4) (length_at b c.at) maps (R.Terminator t) k.payload);
        value = p.value;
        whole = omega (arith, k.within, k.ends, p.size);
      }
