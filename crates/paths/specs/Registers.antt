-- Which registers an instruction reads, and which are readable after it.
use Rattle.std.specs.Prelude.{ℕ, Bool, false, eqb, leb}
use Rattle.wire.specs.Pick.{pick, both, either}
use Rattle.insn.specs.Helper.{helper_of, arguments}
use Rattle.insn.specs.declared.Insn.{Insn}
use Rattle.insn.specs.declared.form.Form.{Form}
use Rattle.insn.specs.declared.form.Form.TheVariants.{NoForm, WideLoad, Ldx, Stx, AluImm, AluReg, MovImm, MovReg, Ja, JeqImm, JneImm, Call, Exit}

-- register r is one of so many from R1 on
unfoldable pub argument : ℕ → ℕ → Bool
argument n r = both (leb 1 r) (leb r n)

-- register r is read by the instruction
unfoldable pub reads : Form → Insn → ℕ → Bool
reads NoForm i r = false
reads WideLoad i r = false
reads (Ldx s) i r = eqb r i.src
reads (Stx s) i r = either (eqb r i.dst) (eqb r i.src)
reads (AluImm o) i r = eqb r i.dst
reads (AluReg o) i r = either (eqb r i.dst) (eqb r i.src)
reads MovImm i r = false
reads MovReg i r = eqb r i.src
reads Ja i r = false
reads JeqImm i r = eqb r i.dst
reads JneImm i r = eqb r i.dst
reads Call i r = argument (arguments (helper_of i.imm)) r
reads Exit i r = eqb r 0

-- the registers that are readable at a point
abbrev pub Regs : Type 0
Regs = ℕ → Bool

-- paths start with R1 and R10 readable
unfoldable pub at_start : Regs
at_start r = either (eqb r 1) (eqb r 10)

-- a written register becomes readable
unfoldable pub with : ℕ → Regs → Regs
with d m r = either (eqb r d) (m r)

-- after a call only R0 of R0 to R5 is readable
unfoldable pub called : Regs → Regs
called m r = pick (leb r 5) (eqb r 0) (m r)

unfoldable pub after : Form → Insn → Regs → Regs
after NoForm i m = m
after WideLoad i m = with i.dst m
after (Ldx s) i m = with i.dst m
after (Stx s) i m = m
after (AluImm o) i m = with i.dst m
after (AluReg o) i m = with i.dst m
after MovImm i m = with i.dst m
after MovReg i m = with i.dst m
after Ja i m = m
after JeqImm i m = m
after JneImm i m = m
after Call i m = called m
after Exit i m = m
