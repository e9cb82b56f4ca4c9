-- `put_head` writes three numbers.
use native.Mathlib.Omega.{arith}
use mir.Syntax.{w16, w32}
use Rattle.recordwriter.specs.Bytes.{payload_bytes}
use Rattle.operand.proofs.Pieces.{number, ◌▸◌}
use Rattle.recordwriter.proofs.put.put_head.Goals as goal

pub returns : goal.returns
unfolding payload_bytes
returns c = (number w16 _ c.put_u16.ensures ▸ number w16 _ c.put_u16-2.ensures ▸ number w32 _ c.put_u32.ensures).left (omega arith)
