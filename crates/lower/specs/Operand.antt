-- "Load", "Addr", "Keep" and "Map".
use Rattle.std.specs.Prelude.{ℕ, suc, ◌%◌, [], ◌∷◌, ℤ, pos, None, Option, Some}
use Rattle.wire.specs.Pick.{pick}
use Rattle.wire.specs.Range.{fits32}
use Rattle.ir.specs.declared.BinaryOp.TheVariants.{Add}
use Rattle.ir.specs.declared.Operand.{Operand}
use Rattle.ir.specs.declared.Operand.TheVariants.{Var, Immediate}
use Rattle.insn.specs.declared.form.Size.TheVariants.{Dw}
use Rattle.insn.specs.declared.form.Form.TheVariants.{Ldx, Stx, AluImm, MovImm, MovReg, Call}
use Rattle.frame.specs.Cell.{Frame}
use Rattle.lower.specs.Op.{Lowered, becomes, refused, map, insn, ◌▸◌}
use Rattle.lower.specs.declared.Reason.TheVariants as Re

-- MOV64 of a constant: 12 where it is outside i32
unfoldable pub constant : ℕ → ℤ → Lowered
constant r z = pick (fits32 z) (insn MovImm r 0 (pos 0) z) (refused (Re.Immediate z))

-- MOV and ADD of registers
unfoldable pub move : ℕ → ℕ → Lowered
move r s = insn MovReg r s (pos 0) (pos 0)

unfoldable pub add : ℕ → ℤ → Lowered
add r z = insn (AluImm Add) r 0 (pos 0) z

unfoldable pub call : ℕ → Lowered
call helper = insn Call 0 0 (pos 0) (pos helper)

-- a variable's cell: 20 where it has none
unfoldable pub on_cell : ℕ → Option ℤ → (ℤ → Lowered) → Lowered
on_cell v (Some offset) f = f offset
on_cell v None f = refused (Re.NoCell v)

-- "load r": a variable: LDX DW from its cell; an immediate: MOV64
unfoldable pub load : Frame → ℕ → Operand → Lowered
load f r (Var v) = on_cell v (f.cell v) (λ cell. insn (Ldx Dw) r 10 cell (pos 0))
load f r (Immediate z) = constant r z

-- "addr r": a variable: MOV r,R10, ADD r,cell; an immediate: MOV r,imm, STX DW to the next scratch, MOV r,R10, ADD r,scratch
unfoldable pub addr : Frame → ℕ → ℕ → Operand → Lowered
addr f j r (Var v) = on_cell v (f.cell v) (λ cell. move r 10 ▸ add r cell)
addr f j r (Immediate z) =
    constant r z ▸ insn (Stx Dw) 10 r (f.scratch j) (pos 0) ▸ move r 10 ▸ add r (f.scratch j)

-- the scratch position after it: the ring returns to 0 after 7
unfoldable pub next : ℕ → Operand → ℕ
next j (Var v) = j
next j (Immediate z) = suc j % 8

-- "keep": STX DW of R0 to the result's cell
unfoldable pub keep : Frame → ℕ → Lowered
keep f v = on_cell v (f.cell v) (λ cell. insn (Stx Dw) 10 0 cell (pos 0))

-- "map": the load of the map's address into R1
unfoldable pub map_address : ℕ → Lowered
map_address m = becomes (map m ∷ [])
