-- What each instruction becomes.
use Rattle.std.specs.Prelude.{ℕ, Bool, true, false, List, [], ◌∷◌, eqb, ℤ, pos, length, None, Option, Some}
use Rattle.wire.specs.Pick.{pick, either}
use Rattle.wire.specs.Range.{fits16, fits32}
use Rattle.ir.specs.Operands.{list_of}
use Rattle.ir.specs.declared.BinaryOp.{BinaryOp}
use Rattle.ir.specs.declared.Operand.{Operand}
use Rattle.ir.specs.declared.Operand.TheVariants.{Var, Immediate}
use Rattle.ir.specs.declared.Opcode.{Opcode}
use Rattle.ir.specs.declared.Opcode.TheVariants as C
use Rattle.ir.specs.declared.Instruction.{Instruction}
use Rattle.insn.specs.Rfc.{LDX, STX}
use Rattle.insn.specs.Form.{mem_code}
use Rattle.insn.specs.declared.form.Size.TheVariants.{Dw}
use Rattle.insn.specs.declared.form.Form.TheVariants.{Ldx, AluImm, AluReg, Ja, JeqImm, Exit}
use Rattle.frame.specs.Cell.{Frame}
use Rattle.lower.specs.Op.{Lowered, becomes, refused, plain, insn, ◌▸◌}
use Rattle.lower.specs.Operand.{constant, move, add, call, load, addr, next, keep, map_address}
use Rattle.lower.specs.declared.Reason.{Reason}
use Rattle.lower.specs.declared.Reason.TheVariants as Re

-- "first" needs one operand; more are ignored
unfoldable pub on_first : List Operand → (Operand → Lowered) → Lowered
on_first [] f = refused (Re.Count 0)
on_first (a ∷ rest) f = f a

-- exactly two, exactly three, none
unfoldable pub on_two : List Operand → (Operand → Operand → Lowered) → Lowered
on_two [] f = refused (Re.Count 0)
on_two (a ∷ []) f = refused (Re.Count 1)
on_two (a ∷ b ∷ []) f = f a b
on_two (a ∷ b ∷ c ∷ rest) f = refused (Re.Count (length (a ∷ b ∷ c ∷ rest)))

unfoldable pub on_three : List Operand → (Operand → Operand → Operand → Lowered) → Lowered
on_three [] f = refused (Re.Count 0)
on_three (a ∷ []) f = refused (Re.Count 1)
on_three (a ∷ b ∷ []) f = refused (Re.Count 2)
on_three (a ∷ b ∷ c ∷ []) f = f a b c
on_three (a ∷ b ∷ c ∷ d ∷ rest) f = refused (Re.Count (length (a ∷ b ∷ c ∷ d ∷ rest)))

unfoldable pub on_none : List Operand → Lowered → Lowered
on_none [] f = f
on_none (a ∷ rest) f = refused (Re.Count (length (a ∷ rest)))

-- a load or store of a size that is checked: 14, 15
unfoldable pub sized : Option ℕ → Reason → (ℕ → Lowered) → Lowered
sized (Some code) bad f = f code
sized None bad f = refused bad

unfoldable pub mem : ℕ → ℕ → ℕ → ℤ → Lowered
mem code dst src off = becomes (plain (record { code = code; dst = dst; src = src; off = off; imm = pos 0 }) ∷ [])

-- Binary's second operand: immediate: op imm; variable: load R1, op reg
unfoldable pub operate : Frame → BinaryOp → Operand → Lowered
operate f op (Immediate z) = pick (fits32 z) (insn (AluImm op) 0 0 (pos 0) z) (refused (Re.Immediate z))
operate f op (Var v) = load f 1 (Var v) ▸ insn (AluReg op) 0 1 (pos 0) (pos 0)

-- LoadCtx, LoadPacket: size check before offset check; LDX R0,[R6+offset]; keep
unfoldable pub from_context : Frame → ℕ → ℤ → ℕ → Lowered
from_context f result offset size =
    sized (mem_code LDX size) (Re.LoadSize size) (λ code. pick (fits16 offset) (mem code 0 6 offset) (refused (Re.Offset offset))) ▸ keep f result

-- 5, 14, 15, 35 take none; 114, 115 exactly 3, load R1 R2 R3; call; keep. 16 is refused for any count
unfoldable pub helper_call : Frame → ℕ → ℕ → List Operand → Lowered
helper_call f result id operands =
    pick (either (either (eqb id 5) (eqb id 14)) (either (eqb id 15) (eqb id 35))) (on_none operands (call id ▸ keep f result))
    (pick (eqb id 16) (refused Re.Helper16)
    (pick (either (eqb id 114) (eqb id 115)) (on_three operands (λ a b c. load f 1 a ▸ load f 2 b ▸ load f 3 c ▸ call id ▸ keep f result))
    (refused (Re.Helper id))))

-- NullCheck whose result is a branch condition of any block: JEQ 0 +2, R0 = 1, JA +1, R0 = 0; else: JEQ 0 +1, JA +2, R0 = 0, EXIT, R0 = 1
unfoldable pub null_check : Bool → Lowered
null_check true = insn JeqImm 0 0 (pos 2) (pos 0) ▸ constant 0 (pos 1) ▸ insn Ja 0 0 (pos 1) (pos 0) ▸ constant 0 (pos 0)
null_check false =
    insn JeqImm 0 0 (pos 1) (pos 0) ▸ insn Ja 0 0 (pos 2) (pos 0) ▸ constant 0 (pos 0) ▸ insn Exit 0 0 (pos 0) (pos 0) ▸ constant 0 (pos 1)

-- by the opcode, in the frame f, from the scratch position j on; `condition`: the result is a branch condition of any block
unfoldable pub opcode : Frame → ℕ → Bool → ℕ → Opcode → List Operand → Lowered
opcode f j condition result (C.Binary op) os = on_two os (λ a b. load f 0 a ▸ operate f op b ▸ keep f result)
opcode f j condition result C.LoadKey os = on_first os (λ a. load f 1 a ▸ insn (Ldx Dw) 0 1 (pos 0) (pos 0) ▸ keep f result)
opcode f j condition result (C.Store size) os =
    on_two os (λ a b. load f 1 a ▸ load f 2 b ▸ sized (mem_code STX size) (Re.StoreSize size) (λ code. mem code 1 2 (pos 0)))
opcode f j condition result (C.LoadCtx offset size) os = from_context f result offset size
opcode f j condition result (C.LoadPacket offset size) os = from_context f result offset size
opcode f j condition result (C.HelperCall id) os = helper_call f result id os
opcode f j condition result (C.CallMap m) os = on_first os (λ a. map_address m ▸ addr f j 2 a ▸ call 1 ▸ keep f result)
opcode f j condition result (C.UpdateMap m) os =
    on_two os (λ a b. map_address m ▸ addr f j 2 a ▸ addr f (next j a) 3 b ▸ constant 4 (pos 0) ▸ call 2 ▸ keep f result)
opcode f j condition result C.NullCheck os = on_first os (λ a. load f 0 a ▸ null_check condition ▸ keep f result)
opcode f j condition result (C.RingBufReserve m size) os =
    map_address m ▸ constant 2 (pos size) ▸ constant 3 (pos 0) ▸ call 131 ▸ keep f result
opcode f j condition result (C.RingBufSubmit m) os =
    on_first os (λ a. load f 1 a ▸ constant 2 (pos 0) ▸ call 132 ▸ constant 0 (pos 0) ▸ keep f result)
opcode f j condition result (C.CopyCtxToMem offset size) os =
    on_first os (λ a. load f 1 a ▸ constant 2 (pos size) ▸ move 3 6 ▸ add 3 offset ▸ call 113 ▸ keep f result)

unfoldable pub instruction : Frame → ℕ → Bool → Instruction → Lowered
instruction f j condition i = opcode f j condition i.result i.opcode (list_of i.operands)

-- the scratch position after an instruction
unfoldable pub after_two : ℕ → List Operand → ℕ
after_two j [] = j
after_two j (a ∷ []) = next j a
after_two j (a ∷ b ∷ rest) = next (next j a) b

unfoldable pub after_first : ℕ → List Operand → ℕ
after_first j [] = j
after_first j (a ∷ rest) = next j a

unfoldable pub scratch_by : ℕ → Opcode → List Operand → ℕ
scratch_by j (C.CallMap m) os = after_first j os
scratch_by j (C.UpdateMap m) os = after_two j os
scratch_by j (C.HelperCall id) os = j
scratch_by j C.LoadKey os = j
scratch_by j (C.Store size) os = j
scratch_by j (C.LoadCtx offset size) os = j
scratch_by j (C.LoadPacket offset size) os = j
scratch_by j (C.CopyCtxToMem offset size) os = j
scratch_by j C.NullCheck os = j
scratch_by j (C.Binary op) os = j
scratch_by j (C.RingBufReserve m size) os = j
scratch_by j (C.RingBufSubmit m) os = j

unfoldable pub scratch_after : ℕ → Instruction → ℕ
scratch_after j i = scratch_by j i.opcode (list_of i.operands)
