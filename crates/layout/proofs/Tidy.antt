-- What an instruction becomes is the load of a map's address or none, and then eleven plain instructions at most.
use mathlib.Core.Path.{◌≡◌, refl, sym, ap, ◌∙◌, subst}
use mathlib.Core.Bool.{Bool, true, false}
use mathlib.Core.List.{List, [], ◌∷◌, ◌++◌, append_assoc}
use Prim.Native.Nat.{ℕ, ◌+◌, ◌≤◌}
use native.Mathlib.Omega.{arith}
use lib.Dec.{eqb}
use lib.IntN.{ℤ, pos}
use lib.ListN.{length, length-append}
use Rattle.wire.specs.Pick.{pick, either}
use Rattle.wire.specs.Range.{fits16, fits32}
use Rattle.ir.specs.Operands.{list_of}
use Rattle.ir.specs.declared.BinaryOp.{BinaryOp}
use Rattle.ir.specs.declared.Operand.{Operand}
use Rattle.ir.specs.declared.Operand.TheVariants.{Var, Immediate}
use Rattle.ir.specs.declared.Opcode.{Opcode}
use Rattle.ir.specs.declared.Opcode.TheVariants as C
use Rattle.ir.specs.declared.Instruction.{Instruction}
use Rattle.insn.specs.Rfc.{LDX, STX}
use Rattle.insn.specs.Form.{mem_code}
use Rattle.insn.specs.declared.Insn.{Insn}
use Rattle.insn.specs.declared.form.Form.{Form}
use Rattle.frame.specs.Cell.{Frame}
use Rattle.lower.specs.Op.{Op, plain, Lowered, becomes, refused, insn, ◌▸◌}
use Rattle.lower.specs.Operand.{constant, move, add, call, on_cell, load, addr, next, keep, map_address}
use Rattle.lower.specs.Instruction.{on_first, on_two, on_three, on_none, sized, mem, operate, from_context, helper_call, null_check, opcode, instruction}
use Rattle.lower.specs.Step.{map_ops}
use Rattle.lower.specs.declared.Reason.{Reason}
use Rattle.layout.specs.Inner.{plain_ops}
use Rattle.std.specs.Prelude.{None, Option, Some}

-- n plain instructions at most
data Plain (n : ℕ) : Lowered → Type 0 where
  some : (is : List Insn) → length is ≤ n → Plain n (becomes (plain_ops is))
  none : (r : Reason) → Plain n (refused r)

-- and a map's load before them, or none
pub data Tidy (n : ℕ) : Lowered → Type 0 where
  some : (m : Option ℕ) (is : List Insn) → length is ≤ n → Tidy n (becomes (map_ops m ++ plain_ops is))
  none : (r : Reason) → Tidy n (refused r)

pub plain_append : (a b : List Insn) → plain_ops (a ++ b) ≡ plain_ops a ++ plain_ops b
unfolding plain_ops
plain_append [] b = refl
plain_append (i ∷ a) b = ap (λ (l : List Op). plain i ∷ l) (plain_append a b)

infixl 4 ◌▹◌
◌▹◌ : {j k : ℕ} {x y : Lowered} → Plain j x → Plain k y → Plain (j + k) (x ▸ y)
unfolding ◌▸◌
◌▹◌ {j} {k} (Plain.some a p) (Plain.some b q) = subst (Plain (j + k)) (ap becomes (plain_append a b)) (Plain.some (a ++ b) (omega (arith, length-append a b)))
Plain.some a p ▹ Plain.none r = Plain.none r
Plain.none r ▹ Plain.some b q = Plain.none r
Plain.none r ▹ Plain.none q = Plain.none r

infixl 4 ◌▷◌
◌▷◌ : {j k : ℕ} {x y : Lowered} → Tidy j x → Plain k y → Tidy (j + k) (x ▸ y)
unfolding ◌▸◌
◌▷◌ {j} {k} (Tidy.some m a p) (Plain.some b q) = subst (Tidy (j + k)) (ap becomes (ap (λ (l : List Op). map_ops m ++ l) (plain_append a b) ∙ sym (append_assoc (map_ops m) (plain_ops a) (plain_ops b)))) (Tidy.some m (a ++ b) (omega (arith, length-append a b)))
Tidy.some m a p ▷ Plain.none r = Tidy.none r
Tidy.none r ▷ Plain.some b q = Tidy.none r
Tidy.none r ▷ Plain.none q = Tidy.none r

-- so many are more than enough
wide : {j n : ℕ} {x : Lowered} → j ≤ n → Plain j x → Plain n x
wide h (Plain.some a p) = Plain.some a (omega arith)
wide h (Plain.none r) = Plain.none r

eleven : {j : ℕ} {x : Lowered} → j ≤ 11 → Tidy j x → Tidy 11 x
eleven h (Tidy.some m a p) = Tidy.some m a (omega arith)
eleven h (Tidy.none r) = Tidy.none r

tidy : {j : ℕ} {x : Lowered} → j ≤ 11 → Plain j x → Tidy 11 x
unfolding map_ops
tidy h (Plain.some a p) = Tidy.some None a (omega arith)
tidy h (Plain.none r) = Tidy.none r

plain_pick : {n : ℕ} (t : Bool) (a b : Lowered) → Plain n a → Plain n b → Plain n (pick t a b)
plain_pick true a b p q = p
plain_pick false a b p q = q

tidy_pick : {n : ℕ} (t : Bool) (a b : Lowered) → Tidy n a → Tidy n b → Tidy n (pick t a b)
tidy_pick true a b p q = p
tidy_pick false a b p q = q

-- ---- the pieces

p_insn : (i : Insn) → Plain 1 (becomes (plain i ∷ []))
unfolding plain_ops
p_insn i = Plain.some (i ∷ []) (omega arith)

one : (form : Form) (dst src : ℕ) (off imm : ℤ) → Plain 1 (insn form dst src off imm)
unfolding insn
one form dst src off imm = p_insn _

p_constant : (r : ℕ) (z : ℤ) → Plain 1 (constant r z)
unfolding constant
p_constant r z = plain_pick (fits32 z) _ _ (one _ _ _ _ _) (Plain.none _)

p_move : (r s : ℕ) → Plain 1 (move r s)
unfolding move
p_move r s = one _ _ _ _ _

p_add : (r : ℕ) (z : ℤ) → Plain 1 (add r z)
unfolding add
p_add r z = one _ _ _ _ _

p_call : (h : ℕ) → Plain 1 (call h)
unfolding call
p_call h = one _ _ _ _ _

p_cell : {n : ℕ} (v : ℕ) (x : Option ℤ) (g : ℤ → Lowered) → ((z : ℤ) → Plain n (g z)) → Plain n (on_cell v x g)
unfolding on_cell
p_cell v (Some z) g h = h z
p_cell v None g h = Plain.none _

p_load : (f : Frame) (r : ℕ) (o : Operand) → Plain 1 (load f r o)
unfolding load
p_load f r (Var v) = p_cell v (f.cell v) _ (λ z. one _ _ _ _ _)
p_load f r (Immediate z) = p_constant r z

p_addr : (f : Frame) (j r : ℕ) (o : Operand) → Plain 4 (addr f j r o)
unfolding addr
p_addr f j r (Var v) = p_cell v (f.cell v) _ (λ z. wide (omega arith) (p_move r 10 ▹ p_add r z))
p_addr f j r (Immediate z) = p_constant r z ▹ one _ _ _ _ _ ▹ p_move r 10 ▹ p_add r _

p_keep : (f : Frame) (v : ℕ) → Plain 1 (keep f v)
unfolding keep
p_keep f v = p_cell v (f.cell v) _ (λ z. one _ _ _ _ _)

p_mem : (code dst src : ℕ) (off : ℤ) → Plain 1 (mem code dst src off)
unfolding mem
p_mem code dst src off = p_insn _

p_sized : {n : ℕ} (x : Option ℕ) (bad : Reason) (g : ℕ → Lowered) → ((k : ℕ) → Plain n (g k)) → Plain n (sized x bad g)
unfolding sized
p_sized (Some code) bad g h = h code
p_sized None bad g h = Plain.none bad

p_operate : (f : Frame) (op : BinaryOp) (o : Operand) → Plain 2 (operate f op o)
unfolding operate
p_operate f op (Var v) = p_load f 1 (Var v) ▹ one _ _ _ _ _
p_operate f op (Immediate z) = wide (omega arith) (plain_pick (fits32 z) _ _ (one _ _ _ _ _) (Plain.none _))

p_null : (t : Bool) → Plain 5 (null_check t)
unfolding null_check
p_null true = wide (omega arith) (one _ _ _ _ _ ▹ p_constant 0 (pos 1) ▹ one _ _ _ _ _ ▹ p_constant 0 (pos 0))
p_null false = one _ _ _ _ _ ▹ one _ _ _ _ _ ▹ p_constant 0 (pos 0) ▹ one _ _ _ _ _ ▹ p_constant 0 (pos 1)

t_map : (m : ℕ) → Tidy 0 (map_address m)
unfolding map_address map_ops plain_ops
t_map m = Tidy.some (Some m) [] (omega arith)

-- ---- counts

t_first : {n : ℕ} (os : List Operand) (g : Operand → Lowered) → ((a : Operand) → Tidy n (g a)) → Tidy n (on_first os g)
unfolding on_first
t_first [] g h = Tidy.none _
t_first (a ∷ os) g h = h a

t_two : {n : ℕ} (os : List Operand) (g : Operand → Operand → Lowered) → ((a b : Operand) → Tidy n (g a b)) → Tidy n (on_two os g)
unfolding on_two
t_two [] g h = Tidy.none _
t_two (a ∷ []) g h = Tidy.none _
t_two (a ∷ b ∷ []) g h = h a b
t_two (a ∷ b ∷ c ∷ os) g h = Tidy.none _

t_three : {n : ℕ} (os : List Operand) (g : Operand → Operand → Operand → Lowered) → ((a b c : Operand) → Tidy n (g a b c)) → Tidy n (on_three os g)
unfolding on_three
t_three [] g h = Tidy.none _
t_three (a ∷ []) g h = Tidy.none _
t_three (a ∷ b ∷ []) g h = Tidy.none _
t_three (a ∷ b ∷ c ∷ []) g h = h a b c
t_three (a ∷ b ∷ c ∷ d ∷ os) g h = Tidy.none _

t_none : {n : ℕ} (os : List Operand) (x : Lowered) → Tidy n x → Tidy n (on_none os x)
unfolding on_none
t_none [] x h = h
t_none (a ∷ os) x h = Tidy.none _

-- ---- the instructions

t_context : (f : Frame) (result : ℕ) (offset : ℤ) (size : ℕ) → Tidy 11 (from_context f result offset size)
unfolding from_context
t_context f result offset size = tidy (omega arith) (p_sized (mem_code LDX size) _ _ (λ code. plain_pick (fits16 offset) _ _ (p_mem _ _ _ _) (Plain.none _)) ▹ p_keep f result)

t_helper : (f : Frame) (result id : ℕ) (os : List Operand) → Tidy 11 (helper_call f result id os)
unfolding helper_call
t_helper f result id os =
    tidy_pick (either (either (eqb id 5) (eqb id 14)) (either (eqb id 15) (eqb id 35))) _ _ (t_none os _ (tidy (omega arith) (p_call id ▹ p_keep f result)))
    (tidy_pick (eqb id 16) _ _ (Tidy.none _)
    (tidy_pick (either (eqb id 114) (eqb id 115)) _ _ (t_three os _ (λ a b c. tidy (omega arith) (p_load f 1 a ▹ p_load f 2 b ▹ p_load f 3 c ▹ p_call id ▹ p_keep f result))) (Tidy.none _)))

pub tidy_opcode : (f : Frame) (j : ℕ) (condition : Bool) (result : ℕ) (o : Opcode) (os : List Operand) → Tidy 11 (opcode f j condition result o os)
unfolding opcode
tidy_opcode f j t result (C.Binary op) os = t_two os _ (λ a b. tidy (omega arith) (p_load f 0 a ▹ p_operate f op b ▹ p_keep f result))
tidy_opcode f j t result C.LoadKey os = t_first os _ (λ a. tidy (omega arith) (p_load f 1 a ▹ one _ _ _ _ _ ▹ p_keep f result))
tidy_opcode f j t result (C.Store size) os = t_two os _ (λ a b. tidy (omega arith) (p_load f 1 a ▹ p_load f 2 b ▹ p_sized (mem_code STX size) _ _ (λ code. p_mem _ _ _ _)))
tidy_opcode f j t result (C.LoadCtx offset size) os = t_context f result offset size
tidy_opcode f j t result (C.LoadPacket offset size) os = t_context f result offset size
tidy_opcode f j t result (C.HelperCall id) os = t_helper f result id os
tidy_opcode f j t result (C.CallMap m) os = t_first os _ (λ a. eleven (omega arith) (t_map m ▷ p_addr f j 2 a ▷ p_call 1 ▷ p_keep f result))
tidy_opcode f j t result (C.UpdateMap m) os = t_two os _ (λ a b. eleven (omega arith) (t_map m ▷ p_addr f j 2 a ▷ p_addr f (next j a) 3 b ▷ p_constant 4 (pos 0) ▷ p_call 2 ▷ p_keep f result))
tidy_opcode f j t result C.NullCheck os = t_first os _ (λ a. tidy (omega arith) (p_load f 0 a ▹ p_null t ▹ p_keep f result))
tidy_opcode f j t result (C.RingBufReserve m size) os = eleven (omega arith) (t_map m ▷ p_constant 2 (pos size) ▷ p_constant 3 (pos 0) ▷ p_call 131 ▷ p_keep f result)
tidy_opcode f j t result (C.RingBufSubmit m) os = t_first os _ (λ a. tidy (omega arith) (p_load f 1 a ▹ p_constant 2 (pos 0) ▹ p_call 132 ▹ p_constant 0 (pos 0) ▹ p_keep f result))
tidy_opcode f j t result (C.CopyCtxToMem offset size) os = t_first os _ (λ a. tidy (omega arith) (p_load f 1 a ▹ p_constant 2 (pos size) ▹ p_move 3 6 ▹ p_add 3 offset ▹ p_call 113 ▹ p_keep f result))

pub tidy_instruction : (f : Frame) (j : ℕ) (condition : Bool) (i : Instruction) → Tidy 11 (instruction f j condition i)
unfolding instruction
tidy_instruction f j condition i = tidy_opcode f j condition i.result i.opcode (list_of i.operands)
