-- How many bytes a record has, by what it says: records and their sizes add up to the unit.
use mathlib.Core.Path.{◌≡◌, refl, ap, ◌∙◌}
use mathlib.Core.List.{List, [], ◌∷◌}
use Prim.Native.Nat.{ℕ, zero, suc, ◌+◌, ◌*◌, ◌≤◌}
use native.Mathlib.Omega.{arith}
use borrow.Author.Tests.{leb-true, eqb-true}
use lib.Dec.{eqb, leb}
use lib.ListN.{length, length-append}
use Rattle.wire.specs.Le.{byte_at}
use Rattle.ir.specs.Operands.{list_of, pushed}
use Rattle.ir.specs.declared.Operand.{Operand}
use Rattle.ir.specs.declared.operands.Operands.{Operands}
use Rattle.ir.specs.declared.operands.Operands.TheVariants.{Zero}
use Rattle.ir.specs.declared.Instruction.{Instruction}
use Rattle.ir.specs.declared.Terminator.{Terminator}
use Rattle.ir.proofs.OperandLaws.{pushed_last}
use Rattle.record.specs.Frame.{length_at, kind_at, next_at}
use Rattle.operand.specs.Operand.{operand_at, on_operand, operands_at}
use Rattle.wire.specs.Pick.{both}
use Rattle.record.specs.Instruction.{count_in, joined, sized, instruction_at}
use Rattle.record.specs.Terminator.{returning, branching, terminator_at, terminator_size}
use Rattle.record.specs.Payload.{head_in, head_ok, of_instruction, of_terminator, payload_at}
use Rattle.record.specs.declared.Record.{Record}
use Rattle.record.specs.declared.Record.TheVariants as R
use Rattle.opcode.proofs.Opcodes.{both_true}
use Rattle.record.proofs.Instructions.{right_size}
use Rattle.unitfile.specs.Records.{Cursor, go, Placed, records, next_record, records_from}
use Rattle.opening.proofs.Choice.{pick_ind}
use Rattle.unitfile.proofs.Run.{taken, ended, came, came_end}
use Rattle.ir.specs.declared.Opcode.{Opcode}
use Rattle.std.specs.Prelude.{None, Option, Some}

unfoldable pub payload_size : Record → ℕ
payload_size (R.Head h) = 8
payload_size (R.Map start len) = len
payload_size (R.Block id) = 4
payload_size (R.Instruction i) = 16 + 9 * length (list_of i.operands)
payload_size (R.Terminator t) = terminator_size t

-- records and their heads
unfoldable pub sizes : List Placed → ℕ
sizes [] = 0
sizes (p ∷ l) = 4 + payload_size p.value + sizes l

-- ---- operands

one_pushed : (l : Operands) (o : Operand) → suc (length (list_of l)) ≤ 8 → length (list_of (pushed l o)) ≡ suc (length (list_of l))
one_pushed l o h =
    let e = ap length (pushed_last l o (omega arith)) in
    let n = length-append (list_of l) (o ∷ []) in
    omega arith

module _ (b : List ℕ) where
  on_one : (k : ℕ) (l : Operands) (i : ℕ) (x : Option Operand) (m : Operands) → ((o : Operand) → x ≡ Some o → operands_at (pushed l o) b (i + 9) k ≡ Some m → length (list_of m) ≡ length (list_of l) + suc k) → on_operand x (λ o. operands_at (pushed l o) b (i + 9) k) ≡ Some m → length (list_of m) ≡ length (list_of l) + suc k
  unfolding on_operand
  on_one k l i (Some o) m h e = h o refl e
  on_one k l i None m h e = let z : ◌≡◌ {A = ℕ} 0 1 = cc in absurd (omega arith)

  operands_count : (k : ℕ) (l : Operands) (i : ℕ) (m : Operands) → length (list_of l) + k ≤ 8 → operands_at l b i k ≡ Some m → length (list_of m) ≡ length (list_of l) + k
  unfolding operands_at
  operands_count zero l i m h e =
      let z : l ≡ m = cc in
      let n = ap (λ (x : Operands). length (list_of x)) z in
      omega arith
  operands_count (suc k) l i m h e =
      on_one k l i (operand_at b i) m
      (λ o p q.
      let n = one_pushed l o (omega arith) in
      let r = operands_count k (pushed l o) (i + 9) m (omega arith) q in
      omega arith)
      e

-- ---- instructions and terminators

joined_operands : (result : ℕ) (x : Option Opcode) (y : Option Operands) (i : Instruction) → joined result x y ≡ Some i → y ≡ Some i.operands
unfolding joined
joined_operands result (Some o) (Some l) i e =
    let z : record { result = result; opcode = o; operands = l } ≡ i = cc in
    ap (λ (x : Instruction). Some x.operands) z
joined_operands result (Some o) None i e = let z : ◌≡◌ {A = ℕ} 0 1 = cc in absurd (omega arith)
joined_operands result None (Some l) i e = let z : ◌≡◌ {A = ℕ} 0 1 = cc in absurd (omega arith)
joined_operands result None None i e = let z : ◌≡◌ {A = ℕ} 0 1 = cc in absurd (omega arith)

instruction_size : (b : List ℕ) (at len maps : ℕ) (i : Instruction) → instruction_at b at len maps ≡ Some i → len ≡ 16 + 9 * length (list_of i.operands)
unfolding instruction_at sized count_in list_of
instruction_size b at len maps i =
    pick_ind (λ (x : Option Instruction). x ≡ Some i → len ≡ 16 + 9 * length (list_of i.operands)) (sized b at len) _ _
    (λ s e.
    let long = both_true (leb 16 len) _ s in
    let few = leb-true (byte_at b (at + 6)) 8 (both_true (leb (byte_at b (at + 6)) 8) _ long.1).0 in
    let n = operands_count b (byte_at b (at + 6)) Zero (at + 16) i.operands (omega arith) (joined_operands _ _ _ i e) in
    omega (arith, right_size b at len s))
    (λ s e. let z : ◌≡◌ {A = ℕ} 0 1 = cc in absurd (omega arith))

abbrev Ends : ℕ → Option Terminator → Type 0
Ends len x = (t : Terminator) → x ≡ Some t → len ≡ terminator_size t

broken_ends : (len : ℕ) → Ends len None
broken_ends len t e = let z : ◌≡◌ {A = ℕ} 0 1 = cc in absurd (omega arith)

is_ends : (len : ℕ) (u : Terminator) → len ≡ terminator_size u → Ends len (Some u)
is_ends len u h t e = let z : u ≡ t = cc in h ∙ ap terminator_size z

return_ends : (len : ℕ) (x : Option Operand) → len ≡ 10 → Ends len (returning x)
unfolding returning terminator_size
return_ends len (Some o) h = is_ends len _ h
return_ends len None h = broken_ends len

branch_ends : (len : ℕ) (x : Option Operand) (to other : ℕ) → len ≡ 18 → Ends len (branching x to other)
unfolding branching terminator_size
branch_ends len (Some o) to other h = is_ends len _ h
branch_ends len None to other h = broken_ends len

terminator_size_lem : (b : List ℕ) (at len : ℕ) → Ends len (terminator_at b at len)
unfolding terminator_at terminator_size
terminator_size_lem b at len =
    pick_ind (Ends len) (both (eqb len 10) (eqb (byte_at b at) 0)) _ _
    (λ h. return_ends len _ (eqb-true _ _ (both_true (eqb len 10) _ h).0))
    (λ h. pick_ind (Ends len) (both (eqb len 5) (eqb (byte_at b at) 1)) _ _
    (λ h. is_ends len _ (eqb-true _ _ (both_true (eqb len 5) _ h).0))
    (λ h. pick_ind (Ends len) (both (eqb len 18) (eqb (byte_at b at) 2)) _ _
    (λ h. branch_ends len _ _ _ (eqb-true _ _ (both_true (eqb len 18) _ h).0))
    (λ h. broken_ends len)))

-- ---- payloads

abbrev Holds : ℕ → Option Record → Type 0
Holds len x = (r : Record) → x ≡ Some r → len ≡ payload_size r

broken_holds : (len : ℕ) → Holds len None
broken_holds len r e = let z : ◌≡◌ {A = ℕ} 0 1 = cc in absurd (omega arith)

is_holds : (len : ℕ) (q : Record) → len ≡ payload_size q → Holds len (Some q)
is_holds len q h r e = let z : q ≡ r = cc in h ∙ ap payload_size z

instruction_holds : (len : ℕ) (x : Option Instruction) → ((i : Instruction) → x ≡ Some i → len ≡ 16 + 9 * length (list_of i.operands)) → Holds len (of_instruction x)
unfolding of_instruction payload_size
instruction_holds len (Some i) h = is_holds len _ (h i refl)
instruction_holds len None h = broken_holds len

terminator_holds : (len : ℕ) (x : Option Terminator) → Ends len x → Holds len (of_terminator x)
unfolding of_terminator payload_size
terminator_holds len (Some t) h = is_holds len _ (h t refl)
terminator_holds len None h = broken_holds len

payload_size_lem : (kind : ℕ) (b : List ℕ) (at len maps : ℕ) → Holds len (payload_at kind b at len maps)
unfolding payload_at payload_size
payload_size_lem kind b at len maps =
    pick_ind (Holds len) (eqb kind 1) _ _
    (λ k. pick_ind (Holds len) (both (eqb len 8) (head_ok (head_in b at))) _ _ (λ h. is_holds len _ (eqb-true _ _ (both_true (eqb len 8) _ h).0)) (λ h. broken_holds len))
    (λ k. pick_ind (Holds len) (eqb kind 2) _ _
    (λ k. pick_ind (Holds len) (leb len 64) _ _ (λ h. is_holds len _ refl) (λ h. broken_holds len))
    (λ k. pick_ind (Holds len) (eqb kind 3) _ _
    (λ k. pick_ind (Holds len) (eqb len 4) _ _ (λ h. is_holds len _ (eqb-true _ _ h)) (λ h. broken_holds len))
    (λ k. pick_ind (Holds len) (eqb kind 4) _ _
    (λ k. instruction_holds len _ (instruction_size b at len maps))
    (λ k. pick_ind (Holds len) (eqb kind 5) _ _ (λ k. terminator_holds len _ (terminator_size_lem b at len)) (λ k. broken_holds len)))))

-- ---- records

-- a step goes on by the bytes of its record
pub step_size : (b : List ℕ) (maps : ℕ) (c : Cursor) (r : Record) (d : Cursor) → next_record b maps c ≡ go r d → d.at ≡ c.at + 4 + payload_size r
unfolding next_at
step_size b maps c r d e =
    let t = taken b maps c r d e in
    let n = payload_size_lem (kind_at b c.at) b (c.at + 4) (length_at b c.at) maps r t.payload in
    omega (arith, t.ends)

-- from a cursor on, records fill the unit
pub sizes_all : (b : List ℕ) (maps : ℕ) (l : List Placed) (c : Cursor) → records_from b maps c ≡ records l → c.at + sizes l ≡ length b
unfolding sizes
sizes_all b maps [] c e = let u = ended b maps c (came_end b maps c e) in omega (arith, u.at)
sizes_all b maps (p ∷ l) c e =
    let h = came b maps c p l e in
    let n = step_size b maps c p.value h.next h.step in
    let m = sizes_all b maps l h.next h.rest in
    omega arith
