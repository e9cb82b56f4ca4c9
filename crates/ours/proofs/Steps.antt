-- One instruction of each form that is emitted: it keeps the rules 32 to 35, and what it reads.
use mathlib.Core.Path.{◌≡◌, refl, sym, ◌∙◌, subst}
use mathlib.Core.Bool.{Bool, true, false, true≢false}
use mathlib.Core.List.{List}
use Prim.Native.Nat.{ℕ, zero, suc, ◌^◌, ◌<◌, ◌≤◌}
use native.Mathlib.Decide.{ℕ_discrete}
use native.Mathlib.Omega.{arith}
use borrow.Author.Tests.{eqb-true, leb-true, ltb-true, le-leb, eq-eqb, ne_eqb}
use lib.Dec.{eqb, leb}
use lib.IntN.{ℤ, pos}
use lib.Signed.{mag}
use Rattle.wire.specs.Pick.{both, either, implies, is_zero}
use Rattle.wire.specs.Range.{fits32}
use Rattle.ir.specs.declared.BinaryOp.{BinaryOp}
use Rattle.insn.specs.Rfc.{width}
use Rattle.insn.specs.Form.{opcode_of, form_of}
use Rattle.insn.specs.Helper.{helper_of, is_helper, arguments}
use Rattle.insn.specs.declared.Insn.{Insn}
use Rattle.insn.specs.declared.form.Size.{Size}
use Rattle.insn.specs.declared.form.Form.{Form}
use Rattle.insn.specs.declared.form.Form.TheVariants.{Ldx, Stx, AluImm, AluReg, MovImm, MovReg, Ja, JeqImm, JneImm, Call, Exit}
use Rattle.insn.proofs.Forms.{form_opcode}
use Rattle.shape.specs.Code.{slots, at}
use Rattle.shape.specs.Fields.{uses}
use Rattle.shape.specs.Shape.{known, registers_ok, unused_zero, in_frame, access_ok}
use Rattle.paths.specs.Registers.{Regs, argument, reads, with}
use Rattle.ours.proofs.Seen.{seen, seen_is, seen_but}
use Rattle.ours.proofs.Safe.{Under, Ready, Inside, stops}
use Rattle.ours.proofs.Pieces.{Keeps, has_form, inside_here}

-- ---- what each form reads

pub none_read : {f : Form} {j : Insn} {D : Regs} → ((r : ℕ) → reads f j r ≡ false) → Ready f j D
none_read h = record { at = λ r e. absurd (true≢false (sym e ∙ h r)) }

pub one_read : {f : Form} {j : Insn} {D : Regs} (x : ℕ) → ((r : ℕ) → reads f j r ≡ eqb r x) → D x ≡ true → Ready f j D
one_read {D = D} x h d = record { at = λ r e. subst (λ (n : ℕ). D n ≡ true) (sym (eqb-true r x (sym (h r) ∙ e))) d }

pub two_read : {f : Form} {j : Insn} {D : Regs} (x y : ℕ) → ((r : ℕ) → reads f j r ≡ either (eqb r x) (eqb r y)) → D x ≡ true → D y ≡ true → Ready f j D
two_read {D = D} x y h d g = record { at = λ r e. go r (eqb r x) (eqb r y) refl refl (sym (h r) ∙ e) }
  where
    go : (r : ℕ) (s t : Bool) → eqb r x ≡ s → eqb r y ≡ t → either s t ≡ true → D r ≡ true
    go r true t p q e = rw (eqb-true r x p) d
    go r false true p q e = rw (eqb-true r y q) g
    go r false false p q e = absurd (true≢false (sym e))

pub with_has : (r : ℕ) (D : Regs) → with r D r ≡ true
unfolding with
with_has r D = rw (eq-eqb r r refl)

pub under_with : (r : ℕ) {D : Regs} → Under D (with r D)
unfolding with
under_with r {D} = record { at = λ n h. go (eqb n r) (D n) h }
  where
    go : (x y : Bool) → y ≡ true → either x y ≡ true
    go true y e = refl
    go false y e = e

-- R1 to Rn
abbrev pub Upto : ℕ → Regs → Type 0
Upto zero D = Unit {0}
Upto (suc n) D = (D (suc n) ≡ true) × Upto n D

upto : (n : ℕ) (D : Regs) → Upto n D → (r : ℕ) → 1 ≤ r → r ≤ n → D r ≡ true
upto zero D u r h l = absurd (omega arith)
upto (suc n) D u r h l = go (ℕ_discrete r (suc n)) (λ m. upto n D u.1 r h m)
  where
    go : Dec (r ≡ suc n) → (r ≤ n → D r ≡ true) → D r ≡ true
    go (yes e) k = rw e u.0
    go (no e) k = k (omega arith)

-- a helper of the table that takes n arguments
pub record Takes (h n : ℕ) : Type 0 where
  pub helper : is_helper (helper_of (pos h)) ≡ true
  pub takes : arguments (helper_of (pos h)) ≡ n
  pub small : h < 2 ^ 31

both_true : (x y : Bool) → both x y ≡ true → (x ≡ true) × (y ≡ true)
both_true true y e = (refl, e)
both_true false y e = absurd (true≢false (sym e))

pub call_ready : {j : Insn} {h n : ℕ} {D : Regs} → j.imm ≡ pos h → Takes h n → Upto n D → Ready Call j D
unfolding reads argument
call_ready {j} {h} {n} {D} m t u =
    record {
      at = λ r e.
          let p = both_true (leb 1 r) (leb r n) (rw (m, t.takes) at e) in
          upto n D u r (leb-true 1 r p.0) (leb-true r n p.1);
    }

-- ---- narrow forms

pub slim : (f : Form) → (uses f).goes_on ≤ 1 → (uses (form_of (opcode_of f))).goes_on ≤ 1
slim f h = rw form_opcode h

-- ---- one instruction of each form, with registers below R10

abbrev pub made : ℕ → ℕ → ℕ → ℤ → ℤ → Insn
made code dst src off imm = record { code = code; dst = dst; src = src; off = off; imm = imm }

-- read back as it was
back : (code dst src : ℕ) (off imm : ℤ) → dst < 16 → src < 16 → mag off < 2 ^ 15 → mag imm < 2 ^ 31 → seen (made code dst src off imm) ≡ made code dst src off imm
back code dst src off imm d s o m = seen_is _ (record { dst = d; src = s; off = record { sfits = o }; imm = record { sfits = m } })

-- a register that may be written
low_only : (r : ℕ) → r < 10 → (leb r 10 ≡ true) × (eqb r 10 ≡ false)
low_only r h = (le-leb r 10 (omega arith), ne_eqb r 10 (λ e. omega arith))

pub keeps_mov : (r : ℕ) (z : ℤ) → r < 10 → fits32 z ≡ true → Keeps (made (opcode_of MovImm) r 0 (pos 0) z) MovImm (made (opcode_of MovImm) r 0 (pos 0) z)
unfolding uses known registers_ok unused_zero access_ok is_zero fits32
keeps_mov r z l h =
    let w = low_only r l in
    record {
      is = back (opcode_of MovImm) r 0 (pos 0) z (omega arith) (omega arith) (omega arith) (ltb-true _ _ h);
      form = form_opcode MovImm;
      knows = λ b s e. refl;
      registers = simp (w.0, w.1);
      unused = refl;
      access = refl;
    }

pub keeps_move : (r s : ℕ) → r < 10 → s ≤ 10 → Keeps (made (opcode_of MovReg) r s (pos 0) (pos 0)) MovReg (made (opcode_of MovReg) r s (pos 0) (pos 0))
unfolding uses known registers_ok unused_zero access_ok is_zero
keeps_move r s l h =
    let w = low_only r l in
    record {
      is = back (opcode_of MovReg) r s (pos 0) (pos 0) (omega arith) (omega arith) (omega arith) (omega arith);
      form = form_opcode MovReg;
      knows = λ b s e. refl;
      registers = simp (w.0, w.1, le-leb s 10 h);
      unused = refl;
      access = refl;
    }

-- the immediate may be any number: it is read back as what its four bytes hold
abbrev pub alu_imm : BinaryOp → ℕ → ℤ → Insn
alu_imm op r z = made (opcode_of (AluImm op)) r 0 (pos 0) z

abbrev pub alu_seen : BinaryOp → ℕ → ℤ → Insn
alu_seen op r z = made (opcode_of (AluImm op)) r 0 (pos 0) (seen (alu_imm op r z)).imm

pub keeps_alu : (op : BinaryOp) (r : ℕ) (z : ℤ) → r < 10 → Keeps (alu_imm op r z) (AluImm op) (alu_seen op r z)
unfolding uses known registers_ok unused_zero access_ok is_zero
keeps_alu op r z l =
    let w = low_only r l in
    record {
      is = seen_but (alu_imm op r z) (omega arith) (omega arith) (record { sfits = omega arith });
      form = form_opcode (AluImm op);
      knows = λ b s e. refl;
      registers = simp (w.0, w.1);
      unused = refl;
      access = refl;
    }

pub keeps_reg : (op : BinaryOp) → Keeps (made (opcode_of (AluReg op)) 0 1 (pos 0) (pos 0)) (AluReg op) (made (opcode_of (AluReg op)) 0 1 (pos 0) (pos 0))
unfolding uses known registers_ok unused_zero access_ok is_zero
keeps_reg op =
    record {
      is = back (opcode_of (AluReg op)) 0 1 (pos 0) (pos 0) (omega arith) (omega arith) (omega arith) (omega arith);
      form = form_opcode (AluReg op);
      knows = λ b s e. refl;
      registers = refl;
      unused = refl;
      access = refl;
    }

-- loads and stores of any size
pub keeps_ldx : (code : ℕ) (w : Size) (r s : ℕ) (o : ℤ) → form_of code ≡ Ldx w → r < 10 → s ≤ 10 → mag o < 2 ^ 15 → implies (eqb s 10) (in_frame o (width w)) ≡ true → Keeps (made code r s o (pos 0)) (Ldx w) (made code r s o (pos 0))
unfolding uses known registers_ok unused_zero access_ok is_zero
keeps_ldx code w r s o e l h m a =
    let p = low_only r l in
    record {
      is = back code r s o (pos 0) (omega arith) (omega arith) m (omega arith);
      form = e;
      knows = λ b s e. refl;
      registers = simp (p.0, p.1, le-leb s 10 h);
      unused = refl;
      access = a;
    }

pub keeps_stx : (code : ℕ) (w : Size) (r s : ℕ) (o : ℤ) → form_of code ≡ Stx w → r ≤ 10 → s ≤ 10 → mag o < 2 ^ 15 → implies (eqb r 10) (in_frame o (width w)) ≡ true → Keeps (made code r s o (pos 0)) (Stx w) (made code r s o (pos 0))
unfolding uses known registers_ok unused_zero access_ok is_zero
keeps_stx code w r s o e l h m a =
    record {
      is = back code r s o (pos 0) (omega arith) (omega arith) m (omega arith);
      form = e;
      knows = λ b s e. refl;
      registers = simp (le-leb r 10 l, le-leb s 10 h);
      unused = refl;
      access = a;
    }

pub keeps_call : (h n : ℕ) → Takes h n → Keeps (made (opcode_of Call) 0 0 (pos 0) (pos h)) Call (made (opcode_of Call) 0 0 (pos 0) (pos h))
unfolding uses known registers_ok unused_zero access_ok is_zero
keeps_call h n t =
    record {
      is = back (opcode_of Call) 0 0 (pos 0) (pos h) (omega arith) (omega arith) (omega arith) t.small;
      form = form_opcode Call;
      knows = λ b s e. rw e t.helper;
      registers = refl;
      unused = refl;
      access = refl;
    }

-- jumps and EXIT: R0 or no register, and no immediate
plainly : (f : Form) (z : ℤ) → mag z < 2 ^ 15 → ((b : List ℕ) (s : ℕ) → known b s (uses f).kind ≡ true) → registers_ok (made (opcode_of f) 0 0 z (pos 0)) (uses f) ≡ true
    → unused_zero (made (opcode_of f) 0 0 z (pos 0)) (uses f) ≡ true → access_ok (made (opcode_of f) 0 0 z (pos 0)) (uses f).kind ≡ true
    → Keeps (made (opcode_of f) 0 0 z (pos 0)) f (made (opcode_of f) 0 0 z (pos 0))
plainly f z h k r u a =
    record {
      is = back (opcode_of f) 0 0 z (pos 0) (omega arith) (omega arith) h (omega arith);
      form = form_opcode f;
      knows = λ b s e. k b s;
      registers = r;
      unused = u;
      access = a;
    }

pub keeps_jeq : (z : ℤ) → mag z < 2 ^ 15 → Keeps (made (opcode_of JeqImm) 0 0 z (pos 0)) JeqImm (made (opcode_of JeqImm) 0 0 z (pos 0))
unfolding uses known registers_ok unused_zero access_ok
keeps_jeq z h = plainly JeqImm z h (λ b s. refl) refl refl refl

pub keeps_jne : (z : ℤ) → mag z < 2 ^ 15 → Keeps (made (opcode_of JneImm) 0 0 z (pos 0)) JneImm (made (opcode_of JneImm) 0 0 z (pos 0))
unfolding uses known registers_ok unused_zero access_ok
keeps_jne z h = plainly JneImm z h (λ b s. refl) refl refl refl

pub keeps_ja : (z : ℤ) → mag z < 2 ^ 15 → Keeps (made (opcode_of Ja) 0 0 z (pos 0)) Ja (made (opcode_of Ja) 0 0 z (pos 0))
unfolding uses known registers_ok unused_zero access_ok is_zero
keeps_ja z h = plainly Ja z h (λ b s. refl) refl refl refl

abbrev pub exits : Insn
exits = made (opcode_of Exit) 0 0 (pos 0) (pos 0)

pub keeps_exit : Keeps exits Exit exits
unfolding uses known registers_ok unused_zero access_ok is_zero
keeps_exit = plainly Exit (pos 0) (omega arith) (λ b s. refl) refl refl refl

-- EXIT reads R0, and no path goes on
pub exit_inside : (b : List ℕ) (s : ℕ) → at b s ≡ seen exits → s < slots b → {Out : ℕ → Type 0} {D : Regs} → D 0 ≡ true → Inside b Out s D
unfolding uses reads
exit_inside b s e l d =
    inside_here b s keeps_exit e l (one_read 0 (λ x. refl) d) (λ q n. absurd (stops b s Exit (has_form b s keeps_exit e) refl refl n))
