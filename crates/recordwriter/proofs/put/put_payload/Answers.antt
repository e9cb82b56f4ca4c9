-- `put_payload` writes the payload of each kind.
use native.Mathlib.Omega.{arith}
use lib.ListN.{length}
use Rattle.recordwriter.specs.Bytes.{payload_bytes}
use Rattle.recordwriter.specs.Written.{valid}
use Rattle.recordwriter.proofs.Length.{part_length}
use Rattle.recordwriter.proofs.Valid.{name_told}
use Rattle.recordwriter.proofs.put.put_payload.Goals as goal

pub put_name-requires : goal.put_name-requires
unfolding valid payload_bytes
put_name-requires c =
    let names = c.args.names.now in
    let m = c.in-Map in
    let n = name_told m.start m.len (length names) (rw m.is at c.requires.value_value) in record { len_in_bounds = n.0; len_in_bounds_2 = omega (arith, part_length m.len m.start names n.0, rw m.is at c.requires.value_in_bounds) }
