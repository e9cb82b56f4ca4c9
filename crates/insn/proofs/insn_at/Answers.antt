-- `insn_at` reads the fields of the instruction at a byte, in the part from there on, which past the end is empty.
use mathlib.Core.Path.{◌≡◌, ◌∙◌}
use native.Mathlib.Omega.{arith}
use lib.ListN.{drop, drop_of_length-le}
use mir.Syntax.{w16, w32}
use Rattle.std.proofs.lemmas.Grind.{common_steps}
use Rattle.wire.proofs.Sign.{back}
use Rattle.insn.proofs.Pieces.{insn_part}
use Rattle.insn.proofs.insn_at.Goals as goal

pub returns : goal.returns
returns c =
    let part : c.unwrap_or-part.result.now ≡ drop c.args.at c.args.b.now = grind (arith, common_steps, drop_of_length-le) in
    let off = back w16 c.get_i16.result c.get_i16.type_inv ∙ c.get_i16.ensures in
    let imm = back w32 c.get_i32.result c.get_i32.type_inv ∙ c.get_i32.ensures in
    insn_part c.args.b.now c.args.at part c.get_u8.ensures c.get_u8-registers.ensures off imm
