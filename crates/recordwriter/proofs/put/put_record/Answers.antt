-- `put_record` writes the length, the kind and the payload.
use native.Mathlib.Omega.{arith}
use mir.Syntax.{w16}
use Rattle.recordwriter.specs.Bytes.{payload_bytes, record_bytes}
use Rattle.operand.proofs.Pieces.{number, piece, ◌▸◌}
use Rattle.recordwriter.proofs.put.put_record.Goals as goal

pub returns : goal.returns
unfolding record_bytes
returns c =
    rw (← c.requires.n_value, ← c.kind.ensures)
    ((number w16 c.args.n c.put_u16.ensures
    ▸ number w16 _ c.put_u16-2.ensures
    ▸ piece (payload_bytes c.args.names.now c.args.value) c.put_payload.ensures).left (omega arith))
