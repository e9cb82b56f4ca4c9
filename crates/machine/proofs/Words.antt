-- A step keeps every register and every cell below 2^64.
use mathlib.Core.Path.{◌≡◌}
use mathlib.Core.List.{List}
use Prim.Native.Nat.{ℕ, suc, ◌+◌, ◌*◌, ◌%◌, ◌^◌, ◌<◌}
use native.Mathlib.Nat.{div-le_self, mod-le}
use native.Mathlib.Omega.{arith}
use lib.Dec.{eqb, leb}
use lib.IntN.{ℤ, pos, negsuc}
use mir.Syntax.{w8, w16, w32, w64}
use Rattle.wire.specs.Le.{Bytes, le, bytes_of, store, unsigned_bytes}
use Rattle.wire.proofs.Le.{le_below, unsigned_bytes_lem}
use Rattle.wire.proofs.Store.{store_bytes}
use Rattle.ir.specs.declared.BinaryOp.{BinaryOp}
use Rattle.ir.specs.declared.BinaryOp.TheVariants.{Add, Sub, Mul, Div, Mod, Shl, Shr}
use Rattle.insn.specs.Rfc.{width}
use Rattle.insn.specs.Form.{form_of}
use Rattle.insn.specs.declared.Insn.{Insn}
use Rattle.insn.specs.declared.form.Size.{Size}
use Rattle.insn.specs.declared.form.Size.TheVariants.{W, H, B, Dw}
use Rattle.insn.specs.declared.form.Form.{Form}
use Rattle.insn.specs.declared.form.Form.TheVariants.{NoForm, WideLoad, Ldx, Stx, AluImm, AluReg, MovImm, MovReg, Ja, JeqImm, JneImm, Call, Exit}
use Rattle.shape.specs.Shape.{target}
use Rattle.machine.specs.Word.{wrap, word, low, alu}
use Rattle.machine.specs.Memory.{Memory, reg, byte_of, cell_of, part, with_part, loaded, stored}
use Rattle.machine.specs.Turn.{Answer, Effect, keeps, writes, frame, calls, after, Out, on, returns, stuck, Turn, jump, turn_of, turn, given, step}
use Rattle.machine.specs.Words.{Words, Fitting}
use Rattle.machine.proofs.Tests.{by_test}

abbrev Small : ℕ → Type 0
Small n = n < 2 ^ 64

-- ---- numbers

word_small : (z : ℤ) → Small (word z)
unfolding word wrap
word_small (pos n) = omega arith
word_small (negsuc n) = omega arith

alu_small : (o : BinaryOp) (x y : ℕ) → Small x → Small (alu o x y)
unfolding alu wrap
alu_small Add x y h = omega arith
alu_small Sub x y h = omega arith
alu_small Mul x y h = omega arith
alu_small Div x y h = by_test Small (eqb y 0) _ _ (omega arith) (omega (arith, div-le_self x y))
alu_small Mod x y h = by_test Small (eqb y 0) _ _ (omega arith) (omega (arith, mod-le x y))
alu_small Shl x y h = omega arith
alu_small Shr x y h = omega (arith, div-le_self x (2 ^ (y % 64)))

low_small : (w : Size) (n : ℕ) → Small (low (width w) n)
unfolding low width
low_small W n = omega arith
low_small H n = omega arith
low_small B n = omega arith
low_small Dw n = omega arith

halves_small : (x y : ℕ) → Small (low 4 x + 2 ^ 32 * low 4 y)
unfolding low
halves_small x y = omega arith

-- ---- cells

bytes_of_lem : (w : Size) (x : ℕ) → Bytes (bytes_of (width w) x)
unfolding unsigned_bytes width
bytes_of_lem W x = unsigned_bytes_lem w32 x
bytes_of_lem H x = unsigned_bytes_lem w16 x
bytes_of_lem B x = unsigned_bytes_lem w8 x
bytes_of_lem Dw x = unsigned_bytes_lem w64 x

le_small : (w : Size) (b : List ℕ) (i : ℕ) → Bytes b → Small (le (width w) b i)
unfolding width
le_small W b i h = omega (arith, le_below 4 b i h)
le_small H b i h = omega (arith, le_below 2 b i h)
le_small B b i h = omega (arith, le_below 1 b i h)
le_small Dw b i h = omega (arith, le_below 8 b i h)

part_small : (w : Size) (p x : ℕ) → Small x → Small (part (width w) p x)
unfolding part width
part_small w p x h = by_test Small (eqb (width w) 8) x _ h (le_small w (bytes_of 8 x) p (bytes_of_lem Dw x))

with_small : (w : Size) (p x v : ℕ) → Small v → Small (with_part (width w) p x v)
unfolding with_part width
with_small w p x v h =
    by_test Small (eqb (width w) 8) v _ h (le_small Dw (store (bytes_of 8 x) p (bytes_of (width w) v)) 0 (store_bytes (bytes_of 8 x) p (bytes_of (width w) v) (bytes_of_lem Dw x) (bytes_of_lem w v)))

-- ---- a step

abbrev Does : Effect → Type 0
Does keeps = Unit {0}
Does (writes d v) = Small v
Does (frame c) = (i : ℕ) → Small (c i)
Does (calls a) = Fitting a

abbrev Leaves : Out → Type 0
Leaves (on t e) = Does e
Leaves (returns v) = Small v
Leaves stuck = Unit {0}

module _ (m : Memory) (M : Words m) (p : ℕ) (P : Small p) where
  reg_small : (r : ℕ) → Small (reg p m r)
  reg_small r = by_test Small (eqb r 10) p (m.regs r) P (M.regs r)

  jump_leaves : (z : ℤ) → Leaves (jump z)
  unfolding jump
  jump_leaves (pos t) = tt
  jump_leaves (negsuc t) = tt

  leaves : (f : Form) (i : Insn) (high : ℤ) (s : ℕ) (a : Answer) → Fitting a → Leaves (given a (turn_of p f i high s m))
  unfolding turn_of given loaded stored
  leaves NoForm i high s a A = tt
  leaves WideLoad i high s a A = by_test (λ (t : Turn). Leaves (given a t)) (eqb i.src 0) _ _ (halves_small (word i.imm) (word high)) A.value
  leaves (Ldx w) i high s a A =
      by_test (λ (t : Turn). Leaves (given a t)) (eqb i.src 10) _ _ (part_small w (byte_of i.off) (m.cells (cell_of i.off)) (M.cells (cell_of i.off))) (low_small w a.value)
  leaves (Stx w) i high s a A =
      by_test (λ (t : Turn). Leaves (given a t)) (eqb i.dst 10) _ _
      (λ k. by_test Small (eqb k (cell_of i.off)) _ _ (with_small w (byte_of i.off) (m.cells (cell_of i.off)) (reg p m i.src) (reg_small i.src)) (M.cells k))
      (A.frame m.cells M.cells)
  leaves (AluImm o) i high s a A = alu_small o (reg p m i.dst) (word i.imm) (reg_small i.dst)
  leaves (AluReg o) i high s a A = alu_small o (reg p m i.dst) (reg p m i.src) (reg_small i.dst)
  leaves MovImm i high s a A = word_small i.imm
  leaves MovReg i high s a A = reg_small i.src
  leaves Ja i high s a A = jump_leaves (target s i.off)
  leaves JeqImm i high s a A = by_test Leaves (eqb (reg p m i.dst) (word i.imm)) (jump (target s i.off)) (on (suc s) keeps) (jump_leaves (target s i.off)) tt
  leaves JneImm i high s a A = by_test Leaves (eqb (reg p m i.dst) (word i.imm)) (on (suc s) keeps) (jump (target s i.off)) tt (jump_leaves (target s i.off))
  leaves Call i high s a A = A
  leaves Exit i high s a A = reg_small 0

module _ (m : Memory) (M : Words m) where
  kept : (e : Effect) → Does e → Words (after e m)
  unfolding after
  kept keeps h = M
  kept (writes d v) h = record { regs = λ r. by_test Small (eqb r d) v (m.regs r) h (M.regs r); cells = M.cells }
  kept (frame c) h = record { regs = M.regs; cells = h }
  kept (calls a) h =
      record {
        regs = λ r. by_test Small (leb r 5) _ (m.regs r) (by_test Small (eqb r 0) a.value (a.rest r) h.value (h.rest r)) (M.regs r);
        cells = h.frame m.cells M.cells;
      }

-- whatever the code is
pub words_kept : (p : ℕ) (code : ℕ → Insn) (a : Answer) (s : ℕ) {t : ℕ} {e : Effect} (m : Memory) → p < 2 ^ 64 → Words m → Fitting a → step p code a s m ≡ on t e → Words (after e m)
unfolding step turn
words_kept p code a s {t} {e} m P M A q = kept m M e (rw q at (leaves m M p P (form_of (code s).code) (code s) (code (suc s)).imm s a A))
