-- The lowering refuses a count exactly where an opcode asks for other operands.
use mathlib.Core.Path.{◌≡◌, refl, sym}
use mathlib.Core.Bool.{Bool, true, false, true≢false}
use mathlib.Core.List.{List, [], ◌∷◌}
use Prim.Native.Nat.{ℕ}
use native.Mathlib.Omega.{arith}
use borrow.Author.Tests.{eqb-true, leb-false}
use lib.Dec.{eqb}
use lib.IntN.{ℤ}
use lib.ListN.{length}
use Rattle.wire.specs.Pick.{pick, either}
use Rattle.wire.specs.Range.{fits16, fits32}
use Rattle.ir.specs.declared.BinaryOp.{BinaryOp}
use Rattle.ir.specs.declared.Operand.{Operand}
use Rattle.ir.specs.declared.Operand.TheVariants.{Var, Immediate}
use Rattle.ir.specs.declared.Opcode.{Opcode}
use Rattle.ir.specs.declared.Opcode.TheVariants as C
use Rattle.insn.specs.Rfc.{LDX, STX}
use Rattle.insn.specs.Form.{mem_code}
use Rattle.insn.specs.declared.form.Form.{Form}
use Rattle.opcode.specs.Asks.{helper_asks, asks_of, enough}
use Rattle.opcode.specs.declared.asks.Asks.TheVariants.{Nothing, First, Exactly}
use Rattle.frame.specs.Cell.{Frame}
use Rattle.lower.specs.Op.{Op, Lowered, becomes, refused, insn, ◌▸◌}
use Rattle.lower.specs.Operand.{constant, move, add, call, on_cell, load, addr, next, keep, map_address}
use Rattle.lower.specs.Instruction.{on_first, on_two, on_three, on_none, sized, mem, operate, from_context, helper_call, null_check, opcode}
use Rattle.lower.specs.Counted.{Counted}
use Rattle.lower.specs.declared.Reason.{Reason}
use Rattle.lower.specs.declared.Reason.TheVariants as Re
use Rattle.std.specs.Prelude.{None, Option, Some}

no : {P : Type 0} → true ≡ false → P
no e = absurd (true≢false e)

-- ---- what is refused for no count

record Free (x : Lowered) : Type 0 where
  never : (n : ℕ) → x ≡ refused (Re.Count n) → ⊥

made : (l : List Op) → Free (becomes l)
made l = record { never = λ n e. let z : ◌≡◌ {A = ℕ} 0 1 = cc in omega arith }

infixl 4 ◌▹◌
◌▹◌ : {x y : Lowered} → Free x → Free y → Free (x ▸ y)
unfolding ◌▸◌
◌▹◌ {x = becomes a} {y = becomes b} p q = made _
◌▹◌ {x = becomes a} {y = refused r} p q = q
◌▹◌ {x = refused r} {y = becomes b} p q = p
◌▹◌ {x = refused r} {y = refused s} p q = p

picked : (t : Bool) {x y : Lowered} → Free x → Free y → Free (pick t x y)
picked true p q = p
picked false p q = q

one : (form : Form) (dst src : ℕ) (off imm : ℤ) → Free (insn form dst src off imm)
unfolding insn
one form dst src off imm = made _

no_immediate : (z : ℤ) → Free (refused (Re.Immediate z))
no_immediate z = record { never = λ n e. let z : ◌≡◌ {A = ℕ} 0 1 = cc in omega arith }

no_helper : (id : ℕ) → Free (refused (Re.Helper id))
no_helper id = record { never = λ n e. let z : ◌≡◌ {A = ℕ} 0 1 = cc in omega arith }

no_16 : Free (refused Re.Helper16)
no_16 = record { never = λ n e. let z : ◌≡◌ {A = ℕ} 0 1 = cc in omega arith }

no_offset : (z : ℤ) → Free (refused (Re.Offset z))
no_offset z = record { never = λ n e. let z : ◌≡◌ {A = ℕ} 0 1 = cc in omega arith }

no_load : (size : ℕ) → Free (refused (Re.LoadSize size))
no_load size = record { never = λ n e. let z : ◌≡◌ {A = ℕ} 0 1 = cc in omega arith }

no_store : (size : ℕ) → Free (refused (Re.StoreSize size))
no_store size = record { never = λ n e. let z : ◌≡◌ {A = ℕ} 0 1 = cc in omega arith }

a_constant : (r : ℕ) (z : ℤ) → Free (constant r z)
unfolding constant
a_constant r z = picked (fits32 z) (one _ _ _ _ _) (no_immediate z)

on_cell_lem : (v : ℕ) (c : Option ℤ) (f : ℤ → Lowered) → ((z : ℤ) → Free (f z)) → Free (on_cell v c f)
unfolding on_cell
on_cell_lem v (Some z) f h = h z
on_cell_lem v None f h = record { never = λ n e. let z : ◌≡◌ {A = ℕ} 0 1 = cc in omega arith }

a_call : (id : ℕ) → Free (call id)
unfolding call
a_call id = one _ _ _ _ _

a_map : (m : ℕ) → Free (map_address m)
unfolding map_address
a_map m = made _

by_size : (k : Option ℕ) (bad : Reason) (f : ℕ → Lowered) → Free (refused bad) → ((code : ℕ) → Free (f code)) → Free (sized k bad f)
unfolding sized
by_size (Some code) bad f p q = q code
by_size None bad f p q = p

a_mem : (code dst src : ℕ) (off : ℤ) → Free (mem code dst src off)
unfolding mem
a_mem code dst src off = made _

a_null : (condition : Bool) → Free (null_check condition)
unfolding null_check
a_null true = one _ _ _ _ _ ▹ a_constant 0 _ ▹ one _ _ _ _ _ ▹ a_constant 0 _
a_null false = one _ _ _ _ _ ▹ one _ _ _ _ _ ▹ a_constant 0 _ ▹ one _ _ _ _ _ ▹ a_constant 0 _

module _ (f : Frame) where
  a_load : (r : ℕ) (o : Operand) → Free (load f r o)
  unfolding load
  a_load r (Var v) = on_cell_lem v _ _ (λ z. one _ _ _ _ _)
  a_load r (Immediate z) = a_constant r z

  a_address : (j r : ℕ) (o : Operand) → Free (addr f j r o)
  unfolding addr move add
  a_address j r (Var v) = on_cell_lem v _ _ (λ z. one _ _ _ _ _ ▹ one _ _ _ _ _)
  a_address j r (Immediate z) = a_constant r z ▹ one _ _ _ _ _ ▹ one _ _ _ _ _ ▹ one _ _ _ _ _

  a_keep : (v : ℕ) → Free (keep f v)
  unfolding keep
  a_keep v = on_cell_lem v _ _ (λ z. one _ _ _ _ _)

  an_operation : (op : BinaryOp) (o : Operand) → Free (operate f op o)
  unfolding operate
  an_operation op (Var v) = a_load 1 (Var v) ▹ one _ _ _ _ _
  an_operation op (Immediate z) = picked (fits32 z) (one _ _ _ _ _) (no_immediate z)

  from_context_lem : (result : ℕ) (offset : ℤ) (size : ℕ) → Free (from_context f result offset size)
  unfolding from_context
  from_context_lem result offset size =
      by_size (mem_code LDX size) _ _ (no_load size) (λ code. picked (fits16 offset) (a_mem code 0 6 offset) (no_offset offset)) ▹ a_keep result

-- ---- operands as they are asked for

module _ (x : Lowered) (h : Free x) where
  any_counted : (os : List Operand) → Counted Nothing os x
  unfolding enough
  any_counted os = record { wrong = λ e. no e; right = λ e. h.never }

  none_counted : (os : List Operand) → Counted (Exactly 0) os (on_none os x)
  unfolding enough on_none
  none_counted [] = record { wrong = λ e. no e; right = λ e. h.never }
  none_counted (a ∷ rest) = record { wrong = λ e. refl; right = λ e n g. omega (arith, eqb-true (length (a ∷ rest)) 0 e) }

first_counted : (os : List Operand) {f : Operand → Lowered} → ((a : Operand) → Free (f a)) → Counted First os (on_first os f)
unfolding enough on_first
first_counted [] h = record { wrong = λ e. refl; right = λ e. no (sym e) }
first_counted (a ∷ rest) h = record { wrong = λ e. absurd (omega (arith, leb-false 1 (length (a ∷ rest)) e)); right = λ e. (h a).never }

two_counted : (os : List Operand) {f : Operand → Operand → Lowered} → ((a b : Operand) → Free (f a b)) → Counted (Exactly 2) os (on_two os f)
unfolding enough on_two
two_counted [] h = record { wrong = λ e. refl; right = λ e. no (sym e) }
two_counted (a ∷ []) h = record { wrong = λ e. refl; right = λ e. no (sym e) }
two_counted (a ∷ b ∷ []) h = record { wrong = λ e. no e; right = λ e. (h a b).never }
two_counted (a ∷ b ∷ c ∷ rest) h = record { wrong = λ e. refl; right = λ e n g. omega (arith, eqb-true (length (a ∷ b ∷ c ∷ rest)) 2 e) }

three_counted : (os : List Operand) {f : Operand → Operand → Operand → Lowered} → ((a b c : Operand) → Free (f a b c)) → Counted (Exactly 3) os (on_three os f)
unfolding enough on_three
three_counted [] h = record { wrong = λ e. refl; right = λ e. no (sym e) }
three_counted (a ∷ []) h = record { wrong = λ e. refl; right = λ e. no (sym e) }
three_counted (a ∷ b ∷ []) h = record { wrong = λ e. refl; right = λ e. no (sym e) }
three_counted (a ∷ b ∷ c ∷ []) h = record { wrong = λ e. no e; right = λ e. (h a b c).never }
three_counted (a ∷ b ∷ c ∷ d ∷ rest) h = record { wrong = λ e. refl; right = λ e n g. omega (arith, eqb-true (length (a ∷ b ∷ c ∷ d ∷ rest)) 3 e) }

helper_counted : (f : Frame) (result id : ℕ) (os : List Operand) → Counted (helper_asks id) os (helper_call f result id os)
unfolding helper_asks helper_call
helper_counted f result id os = go (either (either (eqb id 5) (eqb id 14)) (either (eqb id 15) (eqb id 35))) (eqb id 16) (either (eqb id 114) (eqb id 115)) refl refl
  where
    go : (t u v : Bool) → eqb id 16 ≡ u → either (eqb id 114) (eqb id 115) ≡ v
        → Counted (pick t (Exactly 0) (pick v (Exactly 3) Nothing)) os
        (pick t (on_none os (call id ▸ keep f result)) (pick u (refused Re.Helper16) (pick v (on_three os (λ a b c. load f 1 a ▸ load f 2 b ▸ load f 3 c ▸ call id ▸ keep f result)) (refused (Re.Helper id)))))
    go true u v p q = none_counted _ (a_call id ▹ a_keep f result) os
    go false true true p q = no (sym (rw (eqb-true id 16 p) at q))
    go false true false p q = any_counted _ no_16 os
    go false false true p q = three_counted os (λ a b c. a_load f 1 a ▹ a_load f 2 b ▹ a_load f 3 c ▹ a_call id ▹ a_keep f result)
    go false false false p q = any_counted _ (no_helper id) os

-- ---- any opcode

module _ (f : Frame) (j : ℕ) (condition : Bool) (result : ℕ) where
  pub counted : (o : Opcode) (os : List Operand) → Counted (asks_of o) os (opcode f j condition result o os)
  unfolding asks_of opcode move add
  counted (C.Binary op) os = two_counted os (λ a b. a_load f 0 a ▹ an_operation f op b ▹ a_keep f result)
  counted C.LoadKey os = first_counted os (λ a. a_load f 1 a ▹ one _ _ _ _ _ ▹ a_keep f result)
  counted (C.Store size) os = two_counted os (λ a b. a_load f 1 a ▹ a_load f 2 b ▹ by_size (mem_code STX size) _ _ (no_store size) (λ code. a_mem code 1 2 _))
  counted (C.LoadCtx offset size) os = any_counted _ (from_context_lem f result offset size) os
  counted (C.LoadPacket offset size) os = any_counted _ (from_context_lem f result offset size) os
  counted (C.HelperCall id) os = helper_counted f result id os
  counted (C.CallMap m) os = first_counted os (λ a. a_map m ▹ a_address f j 2 a ▹ a_call 1 ▹ a_keep f result)
  counted (C.UpdateMap m) os =
      two_counted os (λ a b. a_map m ▹ a_address f j 2 a ▹ a_address f (next j a) 3 b ▹ a_constant 4 _ ▹ a_call 2 ▹ a_keep f result)
  counted C.NullCheck os = first_counted os (λ a. a_load f 0 a ▹ a_null condition ▹ a_keep f result)
  counted (C.RingBufReserve m size) os = any_counted _ (a_map m ▹ a_constant 2 _ ▹ a_constant 3 _ ▹ a_call 131 ▹ a_keep f result) os
  counted (C.RingBufSubmit m) os = first_counted os (λ a. a_load f 1 a ▹ a_constant 2 _ ▹ a_call 132 ▹ a_constant 0 _ ▹ a_keep f result)
  counted (C.CopyCtxToMem offset size) os =
      first_counted os (λ a. a_load f 1 a ▹ a_constant 2 _ ▹ one _ _ _ _ _ ▹ one _ _ _ _ _ ▹ a_call 113 ▹ a_keep f result)
