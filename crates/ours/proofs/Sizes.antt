-- How many slots each record's operations take: at most half as many as the record has bytes.
use mathlib.Core.Path.{◌≡◌, refl, subst}
use mathlib.Core.Bool.{Bool, true, false}
use mathlib.Core.List.{List, [], ◌∷◌, ◌++◌}
use Prim.Native.Nat.{ℕ, ◌+◌, ◌*◌, ◌≤◌}
use native.Mathlib.Omega.{arith}
use lib.Dec.{eqb}
use lib.IntN.{ℤ, pos}
use lib.ListN.{length}
use Rattle.wire.specs.Pick.{pick, either}
use Rattle.wire.specs.Range.{fits16, fits32}
use Rattle.ir.specs.Operands.{list_of}
use Rattle.ir.specs.declared.BinaryOp.{BinaryOp}
use Rattle.ir.specs.declared.Operand.{Operand}
use Rattle.ir.specs.declared.Operand.TheVariants.{Var, Immediate}
use Rattle.ir.specs.declared.Opcode.{Opcode}
use Rattle.ir.specs.declared.Opcode.TheVariants as C
use Rattle.ir.specs.declared.Instruction.{Instruction}
use Rattle.ir.specs.declared.Terminator.{Terminator}
use Rattle.ir.specs.declared.Terminator.TheVariants.{Return, Jump, Branch}
use Rattle.insn.specs.Rfc.{LDX, STX}
use Rattle.insn.specs.Form.{mem_code}
use Rattle.insn.specs.declared.form.Form.{Form}
use Rattle.record.specs.Terminator.{terminator_size}
use Rattle.frame.specs.Cell.{Frame}
use Rattle.lower.specs.Op.{Op, ja, jne, Lowered, becomes, refused, insn, slots_of, ◌▸◌}
use Rattle.lower.specs.Operand.{constant, move, add, call, on_cell, load, addr, next, keep, map_address}
use Rattle.lower.specs.Instruction.{on_first, on_two, on_three, on_none, sized, mem, operate, from_context, helper_call, null_check, opcode, instruction}
use Rattle.lower.specs.Terminator.{terminator}
use Rattle.lower.specs.declared.Reason.{Reason}
use Rattle.layout.proofs.Laid.{slots_append}
use Rattle.std.specs.Prelude.{None, Option, Some}

-- at most n slots
record Most (x : Lowered) (n : ℕ) : Type 0 where
  few : (l : List Op) → x ≡ becomes l → slots_of l ≤ n

some : (l : List Op) {n : ℕ} → slots_of l ≤ n → Most (becomes l) n
some l {n} h = record { few = λ k e. let q : l ≡ k = cc in subst (λ (y : List Op). slots_of y ≤ n) q h }

none : {r : Reason} {n : ℕ} → Most (refused r) n
none = record { few = λ l e. let z : ◌≡◌ {A = ℕ} 0 1 = cc in absurd (omega arith) }

join : (x y : Lowered) (m n : ℕ) → Most x m → Most y n → Most (x ▸ y) (m + n)
unfolding ◌▸◌
join (becomes a) (becomes c) m n p q = some (a ++ c) (omega (arith, slots_append a c, p.few a refl, q.few c refl))
join (becomes a) (refused r) m n p q = none
join (refused r) (becomes c) m n p q = none
join (refused r) (refused s) m n p q = none

infixl 4 ◌▹◌
◌▹◌ : {x y : Lowered} {m n : ℕ} → Most x m → Most y n → Most (x ▸ y) (m + n)
p ▹ q = join _ _ _ _ p q

more : {x : Lowered} {m n : ℕ} → Most x m → m ≤ n → Most x n
more p h = record { few = λ l e. omega (arith, p.few l e) }

s_pick : (t : Bool) (x y : Lowered) {n : ℕ} → Most x n → Most y n → Most (pick t x y) n
s_pick true x y p q = p
s_pick false x y p q = q

-- ---- the pieces

one : (form : Form) (dst src : ℕ) (off imm : ℤ) → Most (insn form dst src off imm) 1
unfolding insn slots_of
one form dst src off imm = some _ (omega arith)

s_constant : (r : ℕ) (z : ℤ) → Most (constant r z) 1
unfolding constant
s_constant r z = s_pick (fits32 z) _ _ (one _ _ _ _ _) none

s_move : (r s : ℕ) → Most (move r s) 1
unfolding move
s_move r s = one _ _ _ _ _

s_add : (r : ℕ) (z : ℤ) → Most (add r z) 1
unfolding add
s_add r z = one _ _ _ _ _

s_call : (h : ℕ) → Most (call h) 1
unfolding call
s_call h = one _ _ _ _ _

s_map : (m : ℕ) → Most (map_address m) 2
unfolding map_address slots_of
s_map m = some _ (omega arith)

s_mem : (code dst src : ℕ) (off : ℤ) → Most (mem code dst src off) 1
unfolding mem slots_of
s_mem code dst src off = some _ (omega arith)

s_cell : (v : ℕ) (x : Option ℤ) (g : ℤ → Lowered) {n : ℕ} → ((z : ℤ) → Most (g z) n) → Most (on_cell v x g) n
unfolding on_cell
s_cell v (Some z) g h = h z
s_cell v None g h = none

s_sized : (x : Option ℕ) (bad : Reason) (g : ℕ → Lowered) {n : ℕ} → ((code : ℕ) → Most (g code) n) → Most (sized x bad g) n
unfolding sized
s_sized (Some code) bad g h = h code
s_sized None bad g h = none

module _ (f : Frame) where
  s_load : (r : ℕ) (o : Operand) → Most (load f r o) 1
  unfolding load
  s_load r (Var v) = s_cell v (f.cell v) _ (λ z. one _ _ _ _ _)
  s_load r (Immediate z) = s_constant r z

  s_keep : (v : ℕ) → Most (keep f v) 1
  unfolding keep
  s_keep v = s_cell v (f.cell v) _ (λ z. one _ _ _ _ _)

  s_addr : (j r : ℕ) (o : Operand) → Most (addr f j r o) 4
  unfolding addr
  s_addr j r (Var v) = s_cell v (f.cell v) _ (λ z. more (s_move r 10 ▹ s_add r z) (omega arith))
  s_addr j r (Immediate z) = s_constant r z ▹ one _ _ _ _ _ ▹ s_move r 10 ▹ s_add r _

  s_operate : (op : BinaryOp) (o : Operand) → Most (operate f op o) 2
  unfolding operate
  s_operate op (Var v) = s_load 1 (Var v) ▹ one _ _ _ _ _
  s_operate op (Immediate z) = s_pick (fits32 z) _ _ (more (one _ _ _ _ _) (omega arith)) none

s_null : (t : Bool) → Most (null_check t) 5
unfolding null_check
s_null true = more (one _ _ _ _ _ ▹ s_constant 0 (pos 1) ▹ one _ _ _ _ _ ▹ s_constant 0 (pos 0)) (omega arith)
s_null false = one _ _ _ _ _ ▹ one _ _ _ _ _ ▹ s_constant 0 (pos 0) ▹ one _ _ _ _ _ ▹ s_constant 0 (pos 1)

-- ---- counts

s_first : (os : List Operand) (g : Operand → Lowered) → ((a : Operand) → Most (g a) 14) → Most (on_first os g) (10 + 4 * length os)
unfolding on_first
s_first [] g h = none
s_first (a ∷ os) g h = more (h a) (omega arith)

s_two : (os : List Operand) (g : Operand → Operand → Lowered) → ((a b : Operand) → Most (g a b) 18) → Most (on_two os g) (10 + 4 * length os)
unfolding on_two
s_two [] g h = none
s_two (a ∷ []) g h = none
s_two (a ∷ b ∷ []) g h = more (h a b) (omega arith)
s_two (a ∷ b ∷ c ∷ os) g h = none

s_three : (os : List Operand) (g : Operand → Operand → Operand → Lowered) → ((a b c : Operand) → Most (g a b c) 22) → Most (on_three os g) (10 + 4 * length os)
unfolding on_three
s_three [] g h = none
s_three (a ∷ []) g h = none
s_three (a ∷ b ∷ []) g h = none
s_three (a ∷ b ∷ c ∷ []) g h = more (h a b c) (omega arith)
s_three (a ∷ b ∷ c ∷ d ∷ os) g h = none

s_none : (os : List Operand) (x : Lowered) → Most x 10 → Most (on_none os x) (10 + 4 * length os)
unfolding on_none
s_none [] x h = more h (omega arith)
s_none (a ∷ os) x h = none

-- ---- the instructions

module _ (f : Frame) where
  s_context : (result : ℕ) (offset : ℤ) (size : ℕ) → Most (from_context f result offset size) 2
  unfolding from_context
  s_context result offset size = s_sized (mem_code LDX size) _ _ (λ code. s_pick (fits16 offset) _ _ (s_mem _ _ _ _) none) ▹ s_keep f result

  s_helper : (result id : ℕ) (os : List Operand) → Most (helper_call f result id os) (10 + 4 * length os)
  unfolding helper_call
  s_helper result id os =
      s_pick (either (either (eqb id 5) (eqb id 14)) (either (eqb id 15) (eqb id 35))) _ _ (s_none os _ (more (s_call id ▹ s_keep f result) (omega arith)))
      (s_pick (eqb id 16) _ _ none
      (s_pick (either (eqb id 114) (eqb id 115)) _ _ (s_three os _ (λ a b c. more (s_load f 1 a ▹ s_load f 2 b ▹ s_load f 3 c ▹ s_call id ▹ s_keep f result) (omega arith))) none))

  s_opcode : (j : ℕ) (t : Bool) (result : ℕ) (o : Opcode) (os : List Operand) → Most (opcode f j t result o os) (10 + 4 * length os)
  unfolding opcode
  s_opcode j t result (C.Binary op) os = s_two os _ (λ a b. more (s_load f 0 a ▹ s_operate f op b ▹ s_keep f result) (omega arith))
  s_opcode j t result C.LoadKey os = s_first os _ (λ a. more (s_load f 1 a ▹ one _ _ _ _ _ ▹ s_keep f result) (omega arith))
  s_opcode j t result (C.Store size) os = s_two os _ (λ a b. more (s_load f 1 a ▹ s_load f 2 b ▹ s_sized (mem_code STX size) _ _ (λ code. s_mem _ _ _ _)) (omega arith))
  s_opcode j t result (C.LoadCtx offset size) os = more (s_context result offset size) (omega arith)
  s_opcode j t result (C.LoadPacket offset size) os = more (s_context result offset size) (omega arith)
  s_opcode j t result (C.HelperCall id) os = s_helper result id os
  s_opcode j t result (C.CallMap m) os = s_first os _ (λ a. more (s_map m ▹ s_addr f j 2 a ▹ s_call 1 ▹ s_keep f result) (omega arith))
  s_opcode j t result (C.UpdateMap m) os = s_two os _ (λ a b. more (s_map m ▹ s_addr f j 2 a ▹ s_addr f (next j a) 3 b ▹ s_constant 4 (pos 0) ▹ s_call 2 ▹ s_keep f result) (omega arith))
  s_opcode j t result C.NullCheck os = s_first os _ (λ a. more (s_load f 0 a ▹ s_null t ▹ s_keep f result) (omega arith))
  s_opcode j t result (C.RingBufReserve m size) os = more (s_map m ▹ s_constant 2 (pos size) ▹ s_constant 3 (pos 0) ▹ s_call 131 ▹ s_keep f result) (omega arith)
  s_opcode j t result (C.RingBufSubmit m) os = s_first os _ (λ a. more (s_load f 1 a ▹ s_constant 2 (pos 0) ▹ s_call 132 ▹ s_constant 0 (pos 0) ▹ s_keep f result) (omega arith))
  s_opcode j t result (C.CopyCtxToMem offset size) os = s_first os _ (λ a. more (s_load f 1 a ▹ s_constant 2 (pos size) ▹ s_move 3 6 ▹ s_add 3 offset ▹ s_call 113 ▹ s_keep f result) (omega arith))

  s_instruction : (j : ℕ) (t : Bool) (i : Instruction) → Most (instruction f j t i) (10 + 4 * length (list_of i.operands))
  unfolding instruction
  s_instruction j t i = s_opcode j t i.result i.opcode (list_of i.operands)

-- ---- against the bytes of the record

pub instruction_slots : (f : Frame) (j : ℕ) (t : Bool) (i : Instruction) (l : List Op) → instruction f j t i ≡ becomes l → 2 * slots_of l ≤ 20 + 9 * length (list_of i.operands)
instruction_slots f j t i l e = omega (arith, (s_instruction f j t i).few l e)

pub terminator_slots : (f : Frame) (t : Terminator) (l : List Op) → terminator f t ≡ becomes l → 2 * slots_of l ≤ 4 + terminator_size t
unfolding terminator terminator_size slots_of
terminator_slots f (Return o) l e = omega (arith, (s_load f 0 o ▹ one _ _ _ _ _).few l e)
terminator_slots f (Jump to) l e = omega (arith, (some (ja to ∷ []) {n = 1} (omega arith)).few l e)
terminator_slots f (Branch o to other) l e = omega (arith, (s_load f 0 o ▹ some (jne to ∷ ja other ∷ []) {n = 2} (omega arith)).few l e)
