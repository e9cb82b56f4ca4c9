-- `to_le_bytes` is the instruction's 8 bytes.
use mathlib.Core.Path.{sym, ap, ◌∙◌}
use mir.Syntax.{w64}
use borrow.Author.Rules.{rules}
use Rattle.wire.specs.Le.{unsigned_bytes}
use Rattle.wire.proofs.Le.{to_le}
use Rattle.insn.proofs.Words.{word_bytes}
use Rattle.insn.proofs.Insn.to_le_bytes.Goals as goal

pub returns : goal.returns
returns c = c.to_le_bytes.ensures ∙ sym (to_le w64 c.word.result) ∙ ap (unsigned_bytes w64) c.word.ensures ∙ word_bytes c.args.self (search rules)
