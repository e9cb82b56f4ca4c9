-- An opcode byte has a form exactly when RFC 9669's fields say so; thirty bytes have one.
use mathlib.Core.Path.{◌≡◌, refl, sym, ap, ◌∙◌}
use mathlib.Core.Bool.{Bool, true, false}
use mathlib.Core.Logic.{◌↔◌, ◌≢◌}
use mathlib.Core.List.{List, [], ◌∷◌}
use Prim.Native.Nat.{ℕ, ◌+◌, ◌<◌}
use native.Mathlib.Omega.{arith}
use lib.Dec.{T, eqb, eqb→eq}
use lib.ListN.{get_or}
use Rattle.wire.specs.Pick.{implies}
use Rattle.ir.specs.declared.BinaryOp.TheVariants.{Add, Sub, Mul, Div, Mod, Shl, Shr}
use Rattle.insn.specs.Rfc.{operation_of, size_field}
use Rattle.insn.specs.Form.{opcode_of, form_of, is_form, forms_below, sizes, with_constant, with_register, jumps}
use Rattle.insn.specs.declared.form.Size.TheVariants.{W, H, B, Dw}
use Rattle.insn.specs.declared.form.Form.{Form}
use Rattle.insn.specs.declared.form.Form.TheVariants.{NoForm, WideLoad, Ldx, Stx, AluImm, AluReg, MovImm, MovReg, Ja, JeqImm, JneImm, Call, Exit}
use Rattle.insn.proofs.Table.{every, each, listed, listed_at}

-- the fields of a form's opcode byte are the form's
pub form_opcode : (f : Form) → form_of (opcode_of f) ≡ f
unfolding opcode_of form_of operation_of size_field sizes with_constant with_register jumps
form_opcode NoForm = refl
form_opcode WideLoad = refl
form_opcode (Ldx W) = refl
form_opcode (Ldx H) = refl
form_opcode (Ldx B) = refl
form_opcode (Ldx Dw) = refl
form_opcode (Stx W) = refl
form_opcode (Stx H) = refl
form_opcode (Stx B) = refl
form_opcode (Stx Dw) = refl
form_opcode (AluImm Add) = refl
form_opcode (AluImm Sub) = refl
form_opcode (AluImm Mul) = refl
form_opcode (AluImm Div) = refl
form_opcode (AluImm Mod) = refl
form_opcode (AluImm Shl) = refl
form_opcode (AluImm Shr) = refl
form_opcode (AluReg Add) = refl
form_opcode (AluReg Sub) = refl
form_opcode (AluReg Mul) = refl
form_opcode (AluReg Div) = refl
form_opcode (AluReg Mod) = refl
form_opcode (AluReg Shl) = refl
form_opcode (AluReg Shr) = refl
form_opcode MovImm = refl
form_opcode MovReg = refl
form_opcode Ja = refl
form_opcode JeqImm = refl
form_opcode JneImm = refl
form_opcode Call = refl
form_opcode Exit = refl

-- a byte that has a form is that form's opcode
right : ℕ → Bool
right c = implies (is_form (form_of c)) (eqb (opcode_of (form_of c)) c)

right_all : T (every right 256)
unfolding right is_form opcode_of form_of operation_of size_field sizes with_constant with_register jumps
right_all = tt

formed : (f : Form) → f ≢ NoForm → is_form f ≡ true
unfolding is_form
formed NoForm n = absurd (n refl)
formed f n = refl

opcode_form : (c : ℕ) → c < 256 → form_of c ≢ NoForm → opcode_of (form_of c) ≡ c
unfolding right
opcode_form c h n = let t = each right 256 right_all c h in eqb→eq (opcode_of (form_of c)) c (rw (formed (form_of c) n) at t)

pub form_exact : (c : ℕ) → c < 256 → (f : Form) → f ≢ NoForm → (form_of c ≡ f) ↔ (c ≡ opcode_of f)
form_exact c h f n = (
  (λ (e : form_of c ≡ f). sym (opcode_form c h (λ (z : form_of c ≡ NoForm). n (sym e ∙ z))) ∙ ap opcode_of e),
  λ (e : c ≡ opcode_of f). ap form_of e ∙ form_opcode f,
)

pub thirty : forms_below 256 ≡ 30
unfolding forms_below is_form form_of sizes with_constant with_register jumps size_field
thirty = refl

-- ---- the table

-- by an opcode byte, the form that RFC 9669's fields give
unfoldable pub forms : List Form
forms = listed form_of 0 256

pub form_at : (c : ℕ) → c < 256 → get_or forms c NoForm ≡ form_of c
unfolding forms
form_at c h =
    let e : 0 + c ≡ c = omega arith in
    listed_at form_of NoForm 0 256 c h ∙ ap form_of e
