-- The pieces of an instruction's code, each as the instructions that make it.
use mathlib.Core.Path.{◌≡◌, refl, sym, ◌∙◌}
use mathlib.Core.Bool.{Bool, true, false}
use mathlib.Core.Logic.{◌⊎◌, inl, inr, ⊎_elim}
use mathlib.Core.List.{List, [], ◌∷◌}
use Prim.Native.Nat.{ℕ, ◌<◌}
use native.Mathlib.Omega.{arith}
use borrow.Author.Tests.{eqb-true, ne_eqb, eq-eqb}
use lib.Dec.{eqb}
use lib.IntN.{ℤ, pos}
use Rattle.wire.specs.Pick.{pick, either}
use Rattle.wire.specs.Range.{fits16, fits32}
use Rattle.ir.specs.declared.BinaryOp.{BinaryOp}
use Rattle.ir.specs.declared.Operand.{Operand}
use Rattle.ir.specs.declared.Operand.TheVariants.{Var, Immediate}
use Rattle.insn.specs.Rfc.{ALU64, K, X, LDX, operation_of, alu_byte, size_field}
use Rattle.insn.specs.Form.{opcode_of, mem_code}
use Rattle.insn.specs.Layout.{insn_of}
use Rattle.insn.specs.declared.Insn.{Insn}
use Rattle.insn.specs.declared.form.Size.TheVariants.{Dw}
use Rattle.insn.specs.declared.form.Form.TheVariants.{Ldx, Stx, AluReg}
use Rattle.frame.specs.Cell.{Frame}
use Rattle.lower.specs.Op.{Lowered, becomes, refused, plain, insn, ◌▸◌}
use Rattle.lower.specs.Operand.{constant, move, add, call, load, addr, keep}
use Rattle.lower.specs.Instruction.{sized, mem, operate, null_check, helper_call, on_none, on_three}
use Rattle.lower.specs.Step.{ops_in, words, one, with_constant, addr_put, addr_take, null_test, null_zero, null_rest}
use Rattle.lower.specs.declared.Reason.{Reason}
use Rattle.lower.specs.declared.Reason.TheVariants as Re
use Rattle.lower.proofs.Compose.{assoc, nothing_first}

-- ---- constants

pub is_constant : (r : ℕ) (z : ℤ) → with_constant 0xb7 r z ≡ constant r z
unfolding with_constant constant one insn opcode_of
is_constant r z = refl

-- ---- addresses

pub cell_address : {i k : Insn} (r : ℕ) (cell : ℤ) → becomes (plain i ∷ []) ≡ move r 10 → becomes (plain k ∷ []) ≡ add r cell
    → becomes (plain i ∷ plain k ∷ []) ≡ (move r 10 ▸ add r cell)
unfolding ◌▸◌
cell_address r cell e f = rw (← e, ← f)

module _ (r : ℕ) (z cell : ℤ) where
  pub scratch_put : {h : Insn} → becomes (plain h ∷ []) ≡ constant r z
      → becomes (plain h ∷ plain (record { code = 0x7b; dst = 10; src = r; off = cell; imm = pos 0 }) ∷ []) ≡ (constant r z ▸ insn (Stx Dw) 10 r cell (pos 0))
  unfolding ◌▸◌ insn opcode_of size_field
  scratch_put e = rw (← e)

  pub scratch_refused : {q : Reason} → refused q ≡ constant r z → refused q ≡ (constant r z ▸ insn (Stx Dw) 10 r cell (pos 0))
  unfolding ◌▸◌ insn
  scratch_refused e = rw (← e)

pub addr_parts : (f : Frame) (j r : ℕ) (o : Operand) → (addr_put f j r o ▸ addr_take f j r o) ≡ addr f j r o
unfolding addr_put addr_take addr
addr_parts f j r (Var v) = nothing_first _
addr_parts f j r (Immediate z) = sym (assoc (constant r z ▸ insn (Stx Dw) 10 r (f.scratch j) (pos 0)) (move r 10) (add r (f.scratch j)))

-- ---- NullCheck

pub null_parts : (t : Bool) → (null_test t ▸ null_zero t ▸ null_rest t) ≡ null_check t
unfolding null_test null_zero null_rest null_check constant fits32 insn ◌▸◌
null_parts true = refl
null_parts false = refl

-- ---- Binary's second operand

module _ (f : Frame) (op : BinaryOp) {code : ℕ} where
  pub operate_constant : {x z : ℤ} → code ≡ alu_byte ALU64 K (operation_of op) → x ≡ z → with_constant code 0 x ≡ operate f op (Immediate z)
  unfolding operate with_constant insn opcode_of one
  operate_constant h i = rw (h, i)

  pub operate_register : (w : ℕ) → insn_of w ≡ record { code = code; dst = 0; src = 1; off = pos 0; imm = pos 0 } → code ≡ alu_byte ALU64 X (operation_of op)
      → words (w ∷ []) ≡ insn (AluReg op) 0 1 (pos 0) (pos 0)
  unfolding words ops_in insn opcode_of
  operate_register w e h = rw (e, h)

-- ---- memory

pub key_load : (w : ℕ) → insn_of w ≡ record { code = 0x79; dst = 0; src = 1; off = pos 0; imm = pos 0 } → words (w ∷ []) ≡ insn (Ldx Dw) 0 1 (pos 0) (pos 0)
unfolding words ops_in insn opcode_of size_field
key_load w e = rw e

abbrev pub context_load : ℕ → ℤ → Lowered
context_load size offset =
    sized (mem_code LDX size) (Re.LoadSize size) (λ code. pick (fits16 offset) (mem code 0 6 offset) (refused (Re.Offset offset)))

-- ---- HelperCall

abbrev pub none : ℕ → Bool
none id = either (either (eqb id 5) (eqb id 14)) (either (eqb id 15) (eqb id 35))

abbrev pub three : ℕ → Bool
three id = either (eqb id 114) (eqb id 115)

one_of : (a b : Bool) → either a b ≡ true → (a ≡ true) ⊎ (b ≡ true)
one_of true b e = inl refl
one_of false b e = inr e

either_small : {a b : Bool} (n : ℕ) → (a ≡ true → n < 128) → (b ≡ true → n < 128) → either a b ≡ true → n < 128
either_small {a} {b} n f g e = ⊎_elim f g (one_of a b e)

is_small : (n k : ℕ) → k < 128 → eqb n k ≡ true → n < 128
is_small n k h e = let t = eqb-true n k e in omega arith

pub none_small : (id : ℕ) → none id ≡ true → id < 128
none_small id =
    either_small id (either_small id (is_small id 5 (omega arith)) (is_small id 14 (omega arith))) (either_small id (is_small id 15 (omega arith)) (is_small id 35 (omega arith)))

pub three_small : (id : ℕ) → three id ≡ true → id < 128
three_small id = either_small id (is_small id 114 (omega arith)) (is_small id 115 (omega arith))

-- t and u: what `takes_none` and `takes_three` answer
module _ (f : Frame) (result id : ℕ) (os : List Operand) {t : Bool} (et : t ≡ none id) where
  pub helper_none : t ≡ true → on_none os (call id ▸ keep f result) ≡ helper_call f result id os
  unfolding helper_call
  helper_none e = rw (sym et ∙ e)

  pub helper_16 : t ≡ false → id ≡ 16 → refused Re.Helper16 ≡ helper_call f result id os
  unfolding helper_call
  helper_16 e h = rw (sym et ∙ e, eq-eqb id 16 h)

  module _ {u : Bool} (e : t ≡ false) (h : id ≡ 16 → ⊥) (eu : u ≡ three id) where
    pub helper_three : u ≡ true → on_three os (λ a b c. load f 1 a ▸ load f 2 b ▸ load f 3 c ▸ call id ▸ keep f result) ≡ helper_call f result id os
    unfolding helper_call
    helper_three k = rw (sym et ∙ e, ne_eqb id 16 h, sym eu ∙ k)

    pub helper_other : u ≡ false → refused (Re.Helper id) ≡ helper_call f result id os
    unfolding helper_call
    helper_other k = rw (sym et ∙ e, ne_eqb id 16 h, sym eu ∙ k)
