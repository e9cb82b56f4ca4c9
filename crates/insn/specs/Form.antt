-- The forms of an instruction that this back end knows, and the opcode byte of each.
use Rattle.std.specs.Prelude.{Bool, true, false, List, [], ◌∷◌, ℕ, zero, suc, ◌+◌, eqb, get_or, None, Option, Some}
use Rattle.wire.specs.Pick.{pick}
use Rattle.ir.specs.declared.BinaryOp.TheVariants.{Add, Sub, Mul, Div, Mod, Shl, Shr}
use Rattle.insn.specs.Rfc.{class, source, operation, size, mode, LD, LDX, STX, JMP, ALU64, K, X, IMM, MEM, MOV, JA, JEQ, JNE, CALL, EXIT, operation_of, size_field, width, alu_byte, mem_byte}
use Rattle.insn.specs.declared.form.Size.{Size}
use Rattle.insn.specs.declared.form.Size.TheVariants.{W, H, B, Dw}
use Rattle.insn.specs.declared.form.Form.{Form}
use Rattle.insn.specs.declared.form.Form.TheVariants.{NoForm, WideLoad, Ldx, Stx, AluImm, AluReg, MovImm, MovReg, Ja, JeqImm, JneImm, Call, Exit}

-- the opcode byte of a form; 0, which is no form's, for NoForm
unfoldable pub opcode_of : Form → ℕ
opcode_of NoForm = 0
opcode_of WideLoad = mem_byte LD (size_field Dw) IMM
opcode_of (Ldx s) = mem_byte LDX (size_field s) MEM
opcode_of (Stx s) = mem_byte STX (size_field s) MEM
opcode_of (AluImm o) = alu_byte ALU64 K (operation_of o)
opcode_of (AluReg o) = alu_byte ALU64 X (operation_of o)
opcode_of MovImm = alu_byte ALU64 K MOV
opcode_of MovReg = alu_byte ALU64 X MOV
opcode_of Ja = alu_byte JMP K JA
opcode_of JeqImm = alu_byte JMP K JEQ
opcode_of JneImm = alu_byte JMP K JNE
opcode_of Call = alu_byte JMP K CALL
opcode_of Exit = alu_byte JMP K EXIT

-- by a size field, the size
unfoldable pub sizes : List Size
sizes = W ∷ H ∷ B ∷ Dw ∷ []

-- by an ALU operation, its two forms
unfoldable pub with_constant : List Form
with_constant = AluImm Add ∷ AluImm Sub ∷ AluImm Mul ∷ AluImm Div ∷ NoForm ∷ NoForm ∷ AluImm Shl ∷ AluImm Shr ∷ NoForm ∷ AluImm Mod ∷ NoForm ∷ MovImm ∷ []

unfoldable pub with_register : List Form
with_register = AluReg Add ∷ AluReg Sub ∷ AluReg Mul ∷ AluReg Div ∷ NoForm ∷ NoForm ∷ AluReg Shl ∷ AluReg Shr ∷ NoForm ∷ AluReg Mod ∷ NoForm ∷ MovReg ∷ []

-- by a jump's operation, its form
unfoldable pub jumps : List Form
jumps = Ja ∷ JeqImm ∷ NoForm ∷ NoForm ∷ NoForm ∷ JneImm ∷ NoForm ∷ NoForm ∷ Call ∷ Exit ∷ []

-- the form of an opcode byte, by RFC 9669's fields
unfoldable pub form_of : ℕ → Form
form_of c =
    pick (eqb (class c) LD) (pick (eqb (mode c) IMM) (pick (eqb (size c) (size_field Dw)) WideLoad NoForm) NoForm)
    (pick (eqb (class c) LDX) (pick (eqb (mode c) MEM) (Ldx (get_or sizes (size c) B)) NoForm)
    (pick (eqb (class c) STX) (pick (eqb (mode c) MEM) (Stx (get_or sizes (size c) B)) NoForm)
    (pick (eqb (class c) ALU64) (pick (eqb (source c) K) (get_or with_constant (operation c) NoForm) (get_or with_register (operation c) NoForm))
    (pick (eqb (class c) JMP) (pick (eqb (source c) K) (get_or jumps (operation c) NoForm) NoForm) NoForm))))

unfoldable pub is_form : Form → Bool
is_form NoForm = false
is_form f = true

-- how many of the first n bytes have a form
unfoldable pub forms_below : ℕ → ℕ
forms_below zero = 0
forms_below (suc c) = pick (is_form (form_of c)) 1 0 + forms_below c

-- the opcode byte of a load (class LDX) or store (class STX) of so many bytes
unfoldable pub mem_code : ℕ → ℕ → Option ℕ
mem_code class bytes =
    pick (eqb bytes (width B)) (Some (mem_byte class (size_field B) MEM))
    (pick (eqb bytes (width H)) (Some (mem_byte class (size_field H) MEM))
    (pick (eqb bytes (width W)) (Some (mem_byte class (size_field W) MEM))
    (pick (eqb bytes (width Dw)) (Some (mem_byte class (size_field Dw) MEM)) None)))
