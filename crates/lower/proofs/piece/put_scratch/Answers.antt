-- `put_scratch` puts an immediate into the scratch cell.
use mathlib.Core.Path.{ap, ◌∙◌}
use mir.Syntax.{w16, w64}
use Rattle.wire.proofs.Sign.{back}
use Rattle.lower.specs.Step.{piece_of, ops_of, with_constant, addr_put}
use Rattle.lower.proofs.Exits.{handed_on}
use Rattle.lower.proofs.Words.{word_is_lem, word_refused}
use Rattle.lower.proofs.Pieces.{is_constant, scratch_put, scratch_refused}
use Rattle.lower.proofs.piece.put_scratch.Goals as goal

pub returns-in-Var : goal.returns-in-Var
unfolding piece_of ops_of addr_put
returns-in-Var c = rw c.in-Var.is

pub returns-in_err-a-in-Immediate : goal.returns-in_err-a-in-Immediate
unfolding piece_of addr_put
returns-in_err-a-in-Immediate c =
    let z = c.in-Immediate.z in
    rw (c.in-Immediate.is, handed_on c.from_residual.ensures.1)
    (scratch_refused c.args.r z _ (word_refused c.constant_word.ensures c.in_err-a-in-Immediate.was ∙ ap (with_constant 0xb7 c.args.r) (back w64 z c.in-Immediate.known_told-1-own.given.0.1) ∙ is_constant c.args.r z))

pub returns-in_ok-a-in-Immediate : goal.returns-in_ok-a-in-Immediate
unfolding piece_of ops_of addr_put
returns-in_ok-a-in-Immediate c =
    let z = c.in-Immediate.z in
    rw (c.in-Immediate.is, c.word-put.ensures, back w16 c.scratch.result c.scratch.type_inv, c.scratch.ensures)
    (scratch_put c.args.r z _ ((word_is_lem c.constant_word.ensures c.in_ok-a-in-Immediate.was).same ∙ ap (with_constant 0xb7 c.args.r) (back w64 z c.in-Immediate.known_told-1-own.given.0.1) ∙ is_constant c.args.r z))
