-- What an instruction uses, by its form.
use Rattle.std.specs.Prelude.{ℕ, Bool, true, false}
use Rattle.insn.specs.Rfc.{width}
use Rattle.insn.specs.declared.form.Form.{Form}
use Rattle.insn.specs.declared.form.Form.TheVariants.{NoForm, WideLoad, Ldx, Stx, AluImm, AluReg, MovImm, MovReg, Ja, JeqImm, JneImm, Call, Exit}

-- the forms with a rule of their own: none of the 30, the wide load, loads and stores of so many bytes, the call
pub data Kind : Type 0 where
  none : Kind
  wide : Kind
  load : ℕ → Kind
  store : ℕ → Kind
  call : Kind
  other : Kind

-- each field: whether it is used; whether the destination is written; whether it jumps; how many slots further a path goes on, 0 where it does not
pub record Uses : Type 0 where
  pub dst : Bool
  pub src : Bool
  pub off : Bool
  pub imm : Bool
  pub writes : Bool
  pub jumps : Bool
  pub goes_on : ℕ
  pub kind : Kind

abbrev pub row : Bool → Bool → Bool → Bool → Bool → Bool → ℕ → Kind → Uses
row d s o i w j n k = record { dst = d; src = s; off = o; imm = i; writes = w; jumps = j; goes_on = n; kind = k }

-- the destination except in JA, CALL, EXIT; the source in LDX, STX, register ALU; the offset in LDX, STX, jumps;
-- the immediate in immediate ALU, JEQ, JNE, CALL; the wide form's source and immediate belong to rule 32, so count as used here
-- columns: dst src off imm writes jumps goes_on kind
unfoldable pub uses : Form → Uses
uses NoForm = row true true true true false false 0 none
uses WideLoad = row true true false true true false 2 wide
uses (Ldx s) = row true true true false true false 1 (load (width s))
uses (Stx s) = row true true true false false false 1 (store (width s))
uses (AluImm o) = row true false false true true false 1 other
uses (AluReg o) = row true true false false true false 1 other
uses MovImm = row true false false true true false 1 other
uses MovReg = row true true false false true false 1 other
uses Ja = row false false true false false true 0 other
uses JeqImm = row true false true true false true 1 other
uses JneImm = row true false true true false true 1 other
uses Call = row false false false true false false 1 call
uses Exit = row false false false false false false 0 other
