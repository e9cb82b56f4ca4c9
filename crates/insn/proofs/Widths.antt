-- Loads and stores: 1, 2, 4 and 8 bytes, and no other number, have an opcode, whose form has that width.
use mathlib.Core.Path.{◌≡◌, refl, sym, ap, ◌∙◌}
use mathlib.Core.Bool.{Bool, true, false}
use Prim.Native.Nat.{ℕ}
use native.Mathlib.Omega.{arith}
use lib.Dec.{eqb}
use borrow.Author.Tests.{eqb-true}
use Rattle.wire.specs.Pick.{pick}
use Rattle.insn.specs.Rfc.{LDX, STX, MEM, size_field, width, mem_byte}
use Rattle.insn.specs.Form.{opcode_of, form_of, mem_code}
use Rattle.insn.specs.declared.form.Size.{Size}
use Rattle.insn.specs.declared.form.Size.TheVariants.{W, H, B, Dw}
use Rattle.insn.specs.declared.form.Form.{Form}
use Rattle.insn.specs.declared.form.Form.TheVariants.{Ldx, Stx}
use Rattle.insn.proofs.Forms.{form_opcode}
use Rattle.std.specs.Prelude.{None, Option, Some}

-- each size's width has its opcode
pub width_code : (class : ℕ) (s : Size) → mem_code class (width s) ≡ Some (mem_byte class (size_field s) MEM)
unfolding mem_code width
width_code class W = refl
width_code class H = refl
width_code class B = refl
width_code class Dw = refl

-- and only they have one
pub code_width : (class bytes c : ℕ) → mem_code class bytes ≡ Some c → (s : Size) × (width s ≡ bytes) × (c ≡ mem_byte class (size_field s) MEM)
unfolding mem_code
code_width class bytes c p = try B _ refl _ p (λ p. try H _ refl _ p (λ p. try W _ refl _ p (λ p. try Dw _ refl _ p (λ p. absurd (never p)))))
  where
    try : (s : Size) (t : Bool) → eqb bytes (width s) ≡ t → (rest : Option ℕ) → pick t (Some (mem_byte class (size_field s) MEM)) rest ≡ Some c
        → (rest ≡ Some c → (s : Size) × (width s ≡ bytes) × (c ≡ mem_byte class (size_field s) MEM)) → (s : Size) × (width s ≡ bytes) × (c ≡ mem_byte class (size_field s) MEM)
    try s true e rest p k = (s, sym (eqb-true _ _ e), cc)
    try s false e rest p k = k p

    never : None ≡ Some c → ⊥
    never p = let z : ◌≡◌ {A = ℕ} 0 1 = cc in omega arith

-- the form of the opcode has the width
code_form : (class bytes c : ℕ) (shape : Size → Form) → ((s : Size) → opcode_of (shape s) ≡ mem_byte class (size_field s) MEM)
    → mem_code class bytes ≡ Some c → (s : Size) × (form_of c ≡ shape s) × (width s ≡ bytes)
code_form class bytes c shape o p =
    let m = code_width class bytes c p in
    (m.0, ap form_of (m.2 ∙ sym (o m.0)) ∙ form_opcode (shape m.0), m.1)

pub ldx_form : (bytes c : ℕ) → mem_code LDX bytes ≡ Some c → (s : Size) × (form_of c ≡ Ldx s) × (width s ≡ bytes)
unfolding opcode_of
ldx_form bytes c = code_form LDX bytes c Ldx (λ s. refl)

pub stx_form : (bytes c : ℕ) → mem_code STX bytes ≡ Some c → (s : Size) × (form_of c ≡ Stx s) × (width s ≡ bytes)
unfolding opcode_of
stx_form bytes c = code_form STX bytes c Stx (λ s. refl)
