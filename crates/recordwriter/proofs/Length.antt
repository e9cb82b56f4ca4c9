-- How many bytes each part of a record has.
use mathlib.Core.Path.{◌≡◌}
use mathlib.Core.List.{List}
use Prim.Native.Nat.{ℕ, ◌+◌, ◌≤◌}
use native.Mathlib.Omega.{arith}
use lib.ListN.{length, take, drop, length-append, length-take, length-drop}
use Rattle.wire.proofs.Le.{unsigned_length}
use Rattle.record.specs.declared.Head.{Head}
use Rattle.record.specs.declared.Record.{Record}
use Rattle.record.specs.declared.Record.TheVariants as R
use Rattle.recordwriter.specs.Bytes.{payload_bytes, record_bytes}

pub head_length : (names : List ℕ) (h : Head) → length (payload_bytes names (R.Head h)) ≡ 8
unfolding payload_bytes
head_length names h = simp (length-append, unsigned_length)

pub part_length : (len start : ℕ) (names : List ℕ) → start + len ≤ length names → length (take len (drop start names)) ≡ len
part_length len start names h = simp (length-take, length-drop) (omega arith)

pub record_length : (names : List ℕ) (r : Record) → length (record_bytes names r) ≡ 4 + length (payload_bytes names r)
unfolding record_bytes
record_length names r = simp (length-append, unsigned_length)
