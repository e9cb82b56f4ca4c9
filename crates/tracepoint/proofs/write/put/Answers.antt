-- `put` sets the 8 bytes of a slot.
use mathlib.Core.Path.{sym, ap, ◌∙◌}
use mathlib.Core.List.{append-nil}
use lib.Seq.{sets}
use native.Mathlib.Omega.{arith}
use Rattle.wire.proofs.Store.{store_in}
use Rattle.insn.specs.Layout.{bytes_of}
use Rattle.insn.proofs.Pieces.{bytes_length}
use Rattle.layout.specs.Code.{code_bytes}
use Rattle.tracepoint.proofs.write.put.Goals as goal

pub returns : goal.returns
unfolding code_bytes
returns c =
    let o = c.byte_offset in
    let n = bytes_length c.args.i in
    rw (← o.ensures)
    (c.put_insn.ensures
    ∙ store_in c.args.code.now o.result.0 (bytes_of c.args.i) (omega (arith, o.ensures))
    ∙ ap (sets c.args.code.now o.result.0) (sym (append-nil (bytes_of c.args.i))))
