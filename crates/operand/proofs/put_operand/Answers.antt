-- `put_operand` writes a tag and what it announces, where the nine bytes lie in b.
use mathlib.Core.Path.{sym, ◌∙◌}
use Prim.Native.Nat.{◌+◌, ◌≤◌}
use native.Mathlib.Omega.{arith}
use borrow.Author.Tests.{leb-true}
use lib.ListN.{length}
use mir.Syntax.{w32, w64}
use Rattle.operand.specs.Operand.{operand_bytes}
use Rattle.operand.proofs.Pieces.{byte, number, signed, ◌▸◌}
use Rattle.operand.proofs.put_operand.Goals as goal

pub returns-in-Var : goal.returns-in-Var
unfolding operand_bytes
returns-in-Var c =
    let room : c.args.at + 9 ≤ length c.args.b.now = leb-true _ _ (sym c.lies.ensures ∙ c.if-lies.true) in
    rw c.in-Var.is
    ((byte 0 (omega arith) c.put_u8.ensures ▸ number w32 _ c.put_u32.ensures ▸ number w32 0 c.put_u32-in-Var.ensures).left room)

pub returns-in-Immediate : goal.returns-in-Immediate
unfolding operand_bytes
returns-in-Immediate c =
    let room : c.args.at + 9 ≤ length c.args.b.now = leb-true _ _ (sym c.lies.ensures ∙ c.if-lies.true) in
    rw c.in-Immediate.is
    ((byte 1 (omega arith) c.put_u8-in-Immediate.ensures ▸ signed w64 c.in-Immediate.z (record { sfits = omega arith }) c.put_i64.ensures).left room)
