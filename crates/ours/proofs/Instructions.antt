-- Each instruction's operations, from R6 and R10 to R6 and R10.
use mathlib.Core.Path.{◌≡◌, refl}
use mathlib.Core.Bool.{Bool, true, false}
use mathlib.Core.Logic.{◌⊎◌, inl, inr, ⊎_elim}
use mathlib.Core.List.{List, [], ◌∷◌}
use Prim.Native.Nat.{ℕ, suc, ◌+◌, ◌*◌, ◌%◌, ◌^◌, ◌<◌, ◌≤◌}
use native.Mathlib.Omega.{arith}
use borrow.Author.Tests.{eqb-true, ltb-true, le-leb, eq-eqb}
use lib.Dec.{eqb}
use lib.IntN.{ℤ, pos}
use lib.Signed.{mag}
use Rattle.wire.specs.Pick.{pick, either}
use Rattle.wire.specs.Range.{fits16, fits32}
use Rattle.ir.specs.Operands.{list_of}
use Rattle.ir.specs.declared.BinaryOp.{BinaryOp}
use Rattle.ir.specs.declared.BinaryOp.TheVariants.{Add}
use Rattle.ir.specs.declared.Operand.{Operand}
use Rattle.ir.specs.declared.Operand.TheVariants.{Var, Immediate}
use Rattle.ir.specs.declared.Opcode.{Opcode}
use Rattle.ir.specs.declared.Opcode.TheVariants as C
use Rattle.ir.specs.declared.Instruction.{Instruction}
use Rattle.insn.specs.Rfc.{LDX, STX, width}
use Rattle.insn.specs.Form.{opcode_of, form_of, mem_code}
use Rattle.insn.specs.Helper.{helpers, among, helper_of, is_helper, arguments}
use Rattle.insn.specs.declared.form.Size.{Size}
use Rattle.insn.specs.declared.form.Size.TheVariants.{Dw}
use Rattle.insn.specs.declared.form.Form.TheVariants.{Ldx, Stx, AluImm, AluReg}
use Rattle.insn.proofs.Forms.{form_opcode}
use Rattle.insn.proofs.Widths.{ldx_form, stx_form}
use Rattle.frame.specs.Cell.{Frame}
use Rattle.frame.specs.Apart.{InFrame}
use Rattle.lower.specs.Op.{Op, Lowered, becomes, refused, insn, ◌▸◌}
use Rattle.lower.specs.Operand.{constant, move, add, call, on_cell, load, addr, next, keep, map_address}
use Rattle.lower.specs.Instruction.{on_first, on_two, on_three, on_none, sized, mem, operate, from_context, helper_call, null_check, opcode, instruction}
use Rattle.lower.specs.declared.Reason.{Reason}
use Rattle.shape.specs.Fields.{uses}
use Rattle.shape.specs.Shape.{in_frame}
use Rattle.paths.specs.Registers.{Regs, reads, with, called, after}
use Rattle.ours.proofs.Safe.{base, Under, under_all, holds_base}
use Rattle.ours.proofs.Pieces.{Piece, join, asking, single, map_piece}
use Rattle.ours.proofs.Steps.{none_read, one_read, two_read, with_has, under_with, Upto, Takes, call_ready, keeps_mov, keeps_move, keeps_alu, keeps_reg, keeps_ldx, keeps_stx, keeps_call}
use Rattle.ours.proofs.NullCheck.{choosing_piece, leaving_piece}
use Rattle.std.specs.Prelude.{None, Option, Some}

-- ---- cells

-- an access of 8 bytes through R10 at an offset of the frame keeps rule 35
lies : (z : ℤ) → InFrame z → in_frame z 8 ≡ true
unfolding in_frame
lies z F =
    let n = 8 * F.number + 7 in
    let e : 8 * suc F.number ≡ suc n = omega arith in
    let small = F.below in
    rw (F.is, e) (simp (le-leb (suc n) 512 (omega arith), le-leb 8 (suc n) (omega arith), eq-eqb (suc n % 8) 0 (omega arith)))

-- and the offset is a number of 16 bits
small : (z : ℤ) → InFrame z → mag z < 2 ^ 15
small z F =
    let e : 8 * suc F.number ≡ suc (8 * F.number + 7) = omega arith in
    let few = F.below in
    rw (F.is, e) (omega arith)

pub record Cells (f : Frame) : Type 0 where
  pub cell : (v : ℕ) (z : ℤ) → f.cell v ≡ Some z → InFrame z
  pub scratch : (j : ℕ) → InFrame (f.scratch j)

-- ---- what is lowered, from a set of registers to a set

pub data Moves : Lowered → Regs → Regs → Type 1 where
  some : {l : List Op} {D E : Regs} → Piece l D E → Moves (becomes l) D E
  none : {r : Reason} {D E : Regs} → Moves (refused r) D E

infixl 4 ◌▹◌
◌▹◌ : {x y : Lowered} {C D E : Regs} → Moves x C D → Moves y D E → Moves (x ▸ y) C E
unfolding ◌▸◌
some p ▹ some q = some (join p q)
some p ▹ none = none
none ▹ some q = none
none ▹ none = none

asks : {x : Lowered} {C D E : Regs} → Under E D → Moves x C D → Moves x C E
asks u (some p) = some (asking u p)
asks u none = none

m_pick : (t : Bool) (x y : Lowered) {D E : Regs} → (t ≡ true → Moves x D E) → (t ≡ false → Moves y D E) → Moves (pick t x y) D E
m_pick true x y p q = p refl
m_pick false x y p q = q refl

module _ {D : Regs} where
  m_constant : (r : ℕ) (z : ℤ) → r < 10 → Moves (constant r z) D (with r D)
  unfolding constant insn uses reads after
  m_constant r z l =
      m_pick (fits32 z) _ _ (λ h. some (single (keeps_mov r z l h) refl refl (none_read (λ x. refl)))) (λ h. none)

  m_move : (r s : ℕ) → r < 10 → s ≤ 10 → D s ≡ true → Moves (move r s) D (with r D)
  unfolding move insn uses reads after
  m_move r s l h d = some (single (keeps_move r s l h) refl refl (one_read s (λ x. refl) d))

  m_add : (r : ℕ) (z : ℤ) → r < 10 → D r ≡ true → Moves (add r z) D (with r D)
  unfolding add insn uses reads after
  m_add r z l d = some (single (keeps_alu Add r z l) refl refl (one_read r (λ x. refl) d))

  m_call : (h n : ℕ) → Takes h n → Upto n D → Moves (call h) D (called D)
  unfolding call insn uses after
  m_call h n t u = some (single (keeps_call h n t) refl refl (call_ready refl t u))

  m_map : (m : ℕ) → Moves (map_address m) D (with 1 D)
  unfolding map_address
  m_map m = some (map_piece m)

  m_cell : (v : ℕ) (x : Option ℤ) (g : ℤ → Lowered) {E : Regs} → ((z : ℤ) → x ≡ Some z → Moves (g z) D E) → Moves (on_cell v x g) D E
  unfolding on_cell
  m_cell v (Some z) g h = h z refl
  m_cell v None g h = none

  module _ (f : Frame) (c : Cells f) where
    pub m_load : (r : ℕ) (o : Operand) → r < 10 → D 10 ≡ true → Moves (load f r o) D (with r D)
    unfolding load insn uses reads after width
    m_load r (Var v) l d =
        m_cell v (f.cell v) _ (λ z e.
        let k = c.cell v z e in
        some (single (keeps_ldx (opcode_of (Ldx Dw)) Dw r 10 z (form_opcode (Ldx Dw)) l (omega arith) (small _ k) (lies _ k)) refl refl (one_read 10 (λ x. refl) d)))
    m_load r (Immediate z) l d = m_constant r z l

    m_keep : (v : ℕ) → D 10 ≡ true → D 0 ≡ true → Moves (keep f v) D D
    unfolding keep insn uses reads after width
    m_keep v d e =
        m_cell v (f.cell v) _ (λ z q.
        let k = c.cell v z q in
        some (single (keeps_stx (opcode_of (Stx Dw)) Dw 10 0 z (form_opcode (Stx Dw)) (omega arith) (omega arith) (small _ k) (lies _ k)) refl refl (two_read 10 0 (λ x. refl) d e)))

    m_scratch : (r j : ℕ) → r < 10 → D 10 ≡ true → D r ≡ true → Moves (insn (Stx Dw) 10 r (f.scratch j) (pos 0)) D D
    unfolding insn uses reads after width
    m_scratch r j l d e =
        let k = c.scratch j in
        some (single (keeps_stx (opcode_of (Stx Dw)) Dw 10 r (f.scratch j) (form_opcode (Stx Dw)) (omega arith) (omega arith) (small _ k) (lies _ k)) refl refl (two_read 10 r (λ x. refl) d e))

m_mem_ldx : (code : ℕ) (w : Size) (o : ℤ) {D : Regs} → form_of code ≡ Ldx w → fits16 o ≡ true → D 6 ≡ true → Moves (mem code 0 6 o) D (with 0 D)
unfolding mem uses reads after fits16
m_mem_ldx code w o e h d =
    some (single (keeps_ldx code w 0 6 o e (omega arith) (omega arith) (ltb-true _ _ h) refl) refl refl (one_read 6 (λ x. refl) d))

m_mem_stx : (code : ℕ) (w : Size) {D : Regs} → form_of code ≡ Stx w → D 1 ≡ true → D 2 ≡ true → Moves (mem code 1 2 (pos 0)) D D
unfolding mem uses reads after
m_mem_stx code w e d g =
    some (single (keeps_stx code w 1 2 (pos 0) e (omega arith) (omega arith) (omega arith) refl) refl refl (two_read 1 2 (λ x. refl) d g))

m_key : {D : Regs} → D 1 ≡ true → Moves (insn (Ldx Dw) 0 1 (pos 0) (pos 0)) D (with 0 D)
unfolding insn uses reads after
m_key d = some (single (keeps_ldx (opcode_of (Ldx Dw)) Dw 0 1 (pos 0) (form_opcode (Ldx Dw)) (omega arith) (omega arith) (omega arith) refl) refl refl (one_read 1 (λ x. refl) d))

m_alu : (op : BinaryOp) (z : ℤ) {D : Regs} → D 0 ≡ true → Moves (insn (AluImm op) 0 0 (pos 0) z) D (with 0 D)
unfolding insn uses reads after
m_alu op z d = some (single (keeps_alu op 0 z (omega arith)) refl refl (one_read 0 (λ x. refl) d))

m_reg : (op : BinaryOp) {D : Regs} → D 0 ≡ true → D 1 ≡ true → Moves (insn (AluReg op) 0 1 (pos 0) (pos 0)) D (with 0 D)
unfolding insn uses reads after
m_reg op d g = some (single (keeps_reg op) refl refl (two_read 0 1 (λ x. refl) d g))

m_sized : (x : Option ℕ) (bad : Reason) (g : ℕ → Lowered) {D E : Regs} → ((code : ℕ) → x ≡ Some code → Moves (g code) D E) → Moves (sized x bad g) D E
unfolding sized
m_sized (Some code) bad g h = h code refl
m_sized None bad g h = none

-- ---- counts

m_first : (os : List Operand) (g : Operand → Lowered) {D E : Regs} → ((a : Operand) → Moves (g a) D E) → Moves (on_first os g) D E
unfolding on_first
m_first [] g h = none
m_first (a ∷ os) g h = h a

m_two : (os : List Operand) (g : Operand → Operand → Lowered) {D E : Regs} → ((a b : Operand) → Moves (g a b) D E) → Moves (on_two os g) D E
unfolding on_two
m_two [] g h = none
m_two (a ∷ []) g h = none
m_two (a ∷ b ∷ []) g h = h a b
m_two (a ∷ b ∷ c ∷ os) g h = none

m_three : (os : List Operand) (g : Operand → Operand → Operand → Lowered) {D E : Regs} → ((a b c : Operand) → Moves (g a b c) D E) → Moves (on_three os g) D E
unfolding on_three
m_three [] g h = none
m_three (a ∷ []) g h = none
m_three (a ∷ b ∷ []) g h = none
m_three (a ∷ b ∷ c ∷ []) g h = h a b c
m_three (a ∷ b ∷ c ∷ d ∷ os) g h = none

m_none : (os : List Operand) (x : Lowered) {D E : Regs} → Moves x D E → Moves (on_none os x) D E
unfolding on_none
m_none [] x h = h
m_none (a ∷ os) x h = none

-- ---- helpers

either_true : (x y : Bool) → either x y ≡ true → (x ≡ true) ⊎ (y ≡ true)
either_true true y e = inl refl
either_true false y e = inr e

-- those that lowering calls itself, and those that a unit names
record Known : Type 0 where
  lookup : Takes 1 2
  update : Takes 2 4
  copy : Takes 113 3
  reserve : Takes 131 3
  submit : Takes 132 2
  time : Takes 5 0
  process : Takes 14 0
  user : Takes 15 0
  task : Takes 35 0
  user_text : Takes 114 3
  kernel_text : Takes 115 3

knows : Known
unfolding is_helper helper_of among helpers arguments
knows =
    record {
      lookup = record { helper = refl; takes = refl; small = omega arith };
      update = record { helper = refl; takes = refl; small = omega arith };
      copy = record { helper = refl; takes = refl; small = omega arith };
      reserve = record { helper = refl; takes = refl; small = omega arith };
      submit = record { helper = refl; takes = refl; small = omega arith };
      time = record { helper = refl; takes = refl; small = omega arith };
      process = record { helper = refl; takes = refl; small = omega arith };
      user = record { helper = refl; takes = refl; small = omega arith };
      task = record { helper = refl; takes = refl; small = omega arith };
      user_text = record { helper = refl; takes = refl; small = omega arith };
      kernel_text = record { helper = refl; takes = refl; small = omega arith };
    }

same_takes : (id h : ℕ) {n : ℕ} → Takes h n → eqb id h ≡ true → Takes id n
same_takes id h t e = rw (eqb-true id h e) t

by_either : {P : Type 0} (x y : Bool) → (x ≡ true → P) → (y ≡ true → P) → either x y ≡ true → P
by_either x y p q e = ⊎_elim p q (either_true x y e)

no_arguments : (id : ℕ) → either (either (eqb id 5) (eqb id 14)) (either (eqb id 15) (eqb id 35)) ≡ true → Takes id 0
no_arguments id =
    by_either (either (eqb id 5) (eqb id 14)) (either (eqb id 15) (eqb id 35))
    (by_either (eqb id 5) (eqb id 14) (same_takes id 5 knows.time) (same_takes id 14 knows.process))
    (by_either (eqb id 15) (eqb id 35) (same_takes id 15 knows.user) (same_takes id 35 knows.task))

three_arguments : (id : ℕ) → either (eqb id 114) (eqb id 115) ≡ true → Takes id 3
three_arguments id = by_either (eqb id 114) (eqb id 115) (same_takes id 114 knows.user_text) (same_takes id 115 knows.kernel_text)

-- ---- the pieces of 01

module _ (f : Frame) (c : Cells f) where
  m_addr : (j r : ℕ) (o : Operand) {D : Regs} → r < 10 → D 10 ≡ true → Moves (addr f j r o) D (with r D)
  unfolding addr
  m_addr j r (Var v) {D} l d =
      m_cell v (f.cell v) _ (λ z e. asks (under_with r) (m_move r 10 l (omega arith) d ▹ m_add r z l (with_has r D)))
  m_addr j r (Immediate z) {D} l d =
      asks (under_all (under_with r) (under_with r))
      (m_constant r z l ▹ m_scratch f c r j l ((under_with r).at 10 d) (with_has r D) ▹ m_move r 10 l (omega arith) ((under_with r).at 10 d) ▹ m_add r (f.scratch j) l (with_has r (with r D)))

  m_operate : (op : BinaryOp) (o : Operand) {D : Regs} → D 0 ≡ true → D 10 ≡ true → Moves (operate f op o) D D
  unfolding operate
  m_operate op (Var v) {D} d e = asks (under_all (under_with 1) (under_with 0)) (m_load f c 1 (Var v) (omega arith) e ▹ m_reg op ((under_with 1).at 0 d) (with_has 1 D))
  m_operate op (Immediate z) d e = m_pick (fits32 z) _ _ (λ h. asks (under_with 0) (m_alu op z d)) (λ h. none)

  m_null : (t : Bool) {D : Regs} → D 0 ≡ true → Moves (null_check t) D (with 0 D)
  unfolding null_check insn constant fits32 ◌▸◌
  m_null true d = some (choosing_piece d)
  m_null false d = some (leaving_piece d)

  -- ---- the instructions

  -- R6 and R10 are kept
  settled : {x : Lowered} {E : Regs} → E 6 ≡ true → E 10 ≡ true → Moves x base E → Moves x base base
  settled h g m = asks (holds_base h g) m

  m_context : (result : ℕ) (offset : ℤ) (size : ℕ) → Moves (from_context f result offset size) base base
  unfolding from_context base with
  m_context result offset size =
      settled refl refl
      (m_sized (mem_code LDX size) _ _ (λ code e. let w = ldx_form size code e in m_pick (fits16 offset) _ _ (λ h. m_mem_ldx code w.0 offset w.1 h refl) (λ h. none))
      ▹ m_keep f c result refl refl)

  m_helper : (result id : ℕ) (os : List Operand) → Moves (helper_call f result id os) base base
  unfolding helper_call base with called
  m_helper result id os =
      m_pick (either (either (eqb id 5) (eqb id 14)) (either (eqb id 15) (eqb id 35))) _ _
      (λ h. m_none os _ (settled refl refl (m_call id 0 (no_arguments id h) tt ▹ m_keep f c result refl refl)))
      (λ _. m_pick (eqb id 16) _ _ (λ h. none)
      (λ _. m_pick (either (eqb id 114) (eqb id 115)) _ _
      (λ h. m_three os _ (λ x y z.
      settled refl refl
      (m_load f c 1 x (omega arith) refl ▹ m_load f c 2 y (omega arith) refl ▹ m_load f c 3 z (omega arith) refl ▹ m_call id 3 (three_arguments id h) (refl, (refl, (refl, tt))) ▹ m_keep f c result refl refl)))
      (λ _. none)))

  m_opcode : (j : ℕ) (t : Bool) (result : ℕ) (o : Opcode) (os : List Operand) → Moves (opcode f j t result o os) base base
  unfolding opcode base with called
  m_opcode j t result (C.Binary op) os =
      m_two os _ (λ x y. settled refl refl (m_load f c 0 x (omega arith) refl ▹ m_operate op y refl refl ▹ m_keep f c result refl refl))
  m_opcode j t result C.LoadKey os = m_first os _ (λ x. settled refl refl (m_load f c 1 x (omega arith) refl ▹ m_key refl ▹ m_keep f c result refl refl))
  m_opcode j t result (C.Store size) os =
      m_two os _ (λ x y. settled refl refl
      (m_load f c 1 x (omega arith) refl ▹ m_load f c 2 y (omega arith) refl
      ▹ m_sized (mem_code STX size) _ _ (λ code e. let w = stx_form size code e in m_mem_stx code w.0 w.1 refl refl)))
  m_opcode j t result (C.LoadCtx offset size) os = m_context result offset size
  m_opcode j t result (C.LoadPacket offset size) os = m_context result offset size
  m_opcode j t result (C.HelperCall id) os = m_helper result id os
  m_opcode j t result (C.CallMap m) os =
      m_first os _ (λ x. settled refl refl (m_map m ▹ m_addr j 2 x (omega arith) refl ▹ m_call 1 2 knows.lookup (refl, (refl, tt)) ▹ m_keep f c result refl refl))
  m_opcode j t result (C.UpdateMap m) os =
      m_two os _ (λ x y. settled refl refl
      (m_map m ▹ m_addr j 2 x (omega arith) refl ▹ m_addr (next j x) 3 y (omega arith) refl ▹ m_constant 4 (pos 0) (omega arith)
      ▹ m_call 2 4 knows.update (refl, (refl, (refl, (refl, tt)))) ▹ m_keep f c result refl refl))
  m_opcode j t result C.NullCheck os = m_first os _ (λ x. settled refl refl (m_load f c 0 x (omega arith) refl ▹ m_null t refl ▹ m_keep f c result refl refl))
  m_opcode j t result (C.RingBufReserve m size) os =
      settled refl refl
      (m_map m ▹ m_constant 2 (pos size) (omega arith) ▹ m_constant 3 (pos 0) (omega arith) ▹ m_call 131 3 knows.reserve (refl, (refl, (refl, tt))) ▹ m_keep f c result refl refl)
  m_opcode j t result (C.RingBufSubmit m) os =
      m_first os _ (λ x. settled refl refl
      (m_load f c 1 x (omega arith) refl ▹ m_constant 2 (pos 0) (omega arith) ▹ m_call 132 2 knows.submit (refl, (refl, tt)) ▹ m_constant 0 (pos 0) (omega arith) ▹ m_keep f c result refl refl))
  m_opcode j t result (C.CopyCtxToMem offset size) os =
      m_first os _ (λ x. settled refl refl
      (m_load f c 1 x (omega arith) refl ▹ m_constant 2 (pos size) (omega arith) ▹ m_move 3 6 (omega arith) (omega arith) refl ▹ m_add 3 offset (omega arith) refl
      ▹ m_call 113 3 knows.copy (refl, (refl, (refl, tt))) ▹ m_keep f c result refl refl))

  pub m_instruction : (j : ℕ) (t : Bool) (i : Instruction) → Moves (instruction f j t i) base base
  unfolding instruction
  m_instruction j t i = m_opcode j t i.result i.opcode (list_of i.operands)
