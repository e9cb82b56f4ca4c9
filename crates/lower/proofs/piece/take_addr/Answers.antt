-- `take_addr` is the address of the cell, or of the scratch cell.
use mir.Syntax.{w16}
use Rattle.wire.proofs.Sign.{back}
use Rattle.lower.specs.Operand.{on_cell}
use Rattle.lower.specs.Step.{piece_of, ops_of, addr_take}
use Rattle.lower.proofs.Pieces.{cell_address}
use Rattle.lower.proofs.piece.take_addr.Goals as goal

pub returns-in-Some : goal.returns-in-Some
unfolding piece_of ops_of addr_take on_cell
returns-in-Some c =
    let same = back w16 c.in-Some.cell c.in-Some.known_told-in-Some-1-own.given.0.1 in
    rw (c.in-Var.is, ← c.cell.ensures, c.in-Some.is) (cell_address c.args.r c.in-Some.cell c.from_frame.ensures (rw same at c.add_cell.ensures))

pub returns-in-None : goal.returns-in-None
unfolding piece_of ops_of addr_take on_cell
returns-in-None c = rw (c.in-Var.is, ← c.cell.ensures, c.in-None.is)

pub returns-in-Immediate : goal.returns-in-Immediate
unfolding piece_of ops_of addr_take
returns-in-Immediate c =
    let cell = c.scratch.ensures in
    rw c.in-Immediate.is (cell_address c.args.r _ c.from_frame-in-Immediate.ensures (rw (back w16 c.scratch.result c.scratch.type_inv, cell) at c.add_cell-in-Immediate.ensures))
