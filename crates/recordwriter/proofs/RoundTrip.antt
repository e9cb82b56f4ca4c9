-- What the program does: a record that was written is read from the buffer, and a record that was read is written as it stood.
use mathlib.Core.Path.{◌≡◌, refl, ap, ◌∙◌}
use mathlib.Core.Bool.{Bool, true, false}
use mathlib.Core.List.{List, []}
use Prim.Native.Nat.{ℕ, ◌+◌, ◌-◌, ◌≤◌}
use native.Mathlib.Omega.{arith}
use borrow.Author.Tests.{leb-true}
use lib.Dec.{leb}
use lib.ListN.{length, take, drop}
use mir.Syntax.{w16}
use mir.Val.{Fits}
use Rattle.wire.specs.Pick.{pick}
use Rattle.wire.specs.Le.{Bytes, store}
use Rattle.wire.proofs.Store.{store_parts}
use Rattle.record.specs.Record.{read_record}
use Rattle.record.specs.declared.Due.{Due}
use Rattle.record.specs.declared.Record.{Record}
use Rattle.recordwriter.specs.Bytes.{record_bytes}
use Rattle.recordwriter.specs.Written.{valid, written_answer, written_buffer}
use Rattle.recordwriter.specs.Typed.{Typed, due_of, placed}
use Rattle.recordwriter.specs.declared.Fault.TheVariants.{Broken, NoRoom}
use Rattle.recordwriter.proofs.ReadBack.{read_after_write}
use Rattle.recordwriter.proofs.WriteBack.{write_after_read}
use Rattle.std.specs.Prelude.{Err, Ok}

-- what an answer of n bytes says
record Wrote (names : List ℕ) (maps : ℕ) (r : Record) (room n : ℕ) : Type 0 where
  rules : valid maps names r ≡ true
  fits : n ≤ room
  size : n ≡ length (record_bytes names r)

wrote : (names : List ℕ) (maps : ℕ) (r : Record) (room n : ℕ) → written_answer r names maps room ≡ Ok n → Wrote names maps r room n
unfolding written_answer
wrote names maps r room n e = go (valid maps names r) (leb (length (record_bytes names r)) room) refl refl e
  where
    go : (t u : Bool) → valid maps names r ≡ t → leb (length (record_bytes names r)) room ≡ u → pick t (pick u (Ok (length (record_bytes names r))) (Err (NoRoom (length (record_bytes names r))))) (Err Broken) ≡ Ok n → Wrote names maps r room n
    go true true p q e =
        let s : n ≡ length (record_bytes names r) = cc in
        record { rules = p; fits = omega (arith, leb-true (length (record_bytes names r)) room q); size = s }
    go true false p q e = let z : ◌≡◌ {A = ℕ} 0 1 = cc in absurd (omega arith)
    go false u p q e = let z : ◌≡◌ {A = ℕ} 0 1 = cc in absurd (omega arith)

-- where `write_record` answers n bytes, the record is read at the buffer's front, and n is next
pub written_is_read : (names buffer : List ℕ) (maps : ℕ) (r : Record) (n : ℕ) → Fits w16 maps → Typed r → written_answer r names maps (length buffer) ≡ Ok n → read_record (written_buffer r names maps buffer) 0 (due_of r) maps ≡ Ok (placed 4 r, n)
unfolding written_buffer
written_is_read names buffer maps r n m f e =
    let w = wrote names maps r (length buffer) n e in
    let front = store_parts buffer 0 (record_bytes names r) (omega (arith, w.fits, w.size)) in
    rw (w.rules, front) (read_after_write [] (drop (0 + length (record_bytes names r)) buffer) names maps r m f w.rules ∙ ap (λ (n : ℕ). Ok (placed 4 r, n)) (omega (arith, w.size)))

-- a record that was read, written with the unit's bytes for names, leaves the bytes that it was read from
pub read_is_written : (b buffer : List ℕ) (at : ℕ) (due : Due) (maps : ℕ) (r : Record) (next : ℕ) → Bytes b → read_record b at due maps ≡ Ok (r, next) → written_buffer r b maps buffer ≡ store buffer 0 (take (next - at) (drop at b))
unfolding written_buffer
read_is_written b buffer at due maps r next h e =
    let w = write_after_read b at due maps r next h e in
    rw (w.1, w.0)
