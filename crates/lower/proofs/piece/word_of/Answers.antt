-- `word_of` is the instruction's word: its registers have four bits.
use mathlib.Core.Path.{ap, ◌∙◌}
use native.Mathlib.Omega.{arith}
use Rattle.insn.specs.Layout.{insn_of}
use Rattle.insn.proofs.Words.{insn_word}
use Rattle.lower.proofs.piece.word_of.Goals as goal

pub returns : goal.returns
returns c =
    let told = c.well_formed.0.1.1 in
    ap insn_of c.word.ensures ∙ insn_word c.args.i told.0.1 (record { dst = omega arith; src = omega arith; off = record { sfits = told.1.1.1.0.1 }; imm = record { sfits = told.1.1.1.1.0.1 } })
