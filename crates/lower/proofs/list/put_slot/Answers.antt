-- `put_slot` stores a word where its slot lies in the code.
use native.Mathlib.Omega.{arith}
use Rattle.insn.specs.Layout.{insn_of}
use Rattle.insn.proofs.Pieces.{not_stored}
use Rattle.insn.proofs.Words.{bytes_insn}
use Rattle.lower.proofs.list.put_slot.Goals as goal

pub returns-then-code-at : goal.returns-then-code-at
returns-then-code-at c =
    not_stored c.args.code.now _ (insn_of c.args.word) (omega arith)

pub returns : goal.returns
returns c =
    rw (← c.byte_offset.ensures, bytes_insn c.args.word) c.put_u64.ensures
