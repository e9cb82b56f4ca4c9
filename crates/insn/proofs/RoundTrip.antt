-- Decoding what was encoded gives the instruction, and encoding what was decoded gives the bytes.
use mathlib.Core.Path.{◌≡◌, ap, ◌∙◌}
use mathlib.Core.List.{List, [], ◌∷◌, ◌++◌}
use Prim.Native.Nat.{ℕ, ◌+◌, ◌*◌, ◌/◌, ◌%◌, ◌<◌}
use native.Mathlib.Omega.{arith}
use lib.ListN.{length, get_or, take, drop, length-drop, take-append-drop}
use lib.Seq.{drop-cons, drop-drop, take_all}
use mir.Syntax.{w16, w32}
use Rattle.wire.specs.Le.{Bytes, bytes_of as lowest, unsigned_bytes, signed_bytes}
use Rattle.wire.proofs.Le.{signed_of_bytes, bytes_of_signed}
use Rattle.insn.specs.Layout.{Fields, bytes_of, insn_at, decoded}
use Rattle.insn.specs.declared.Insn.{Insn}
use Rattle.insn.proofs.Pieces.{bytes_length}
use Rattle.std.specs.Prelude.{Ok}

nibbles : (a b : ℕ) → a < 16 → b < 16 → ((a % 16 + 16 * (b % 16)) % 16 ≡ a) × ((a % 16 + 16 * (b % 16)) / 16 ≡ b)
nibbles a b h l =
    let x : a % 16 ≡ a = omega arith in
    let y : b % 16 ≡ b = omega arith in
    rw (x, y) (omega arith, omega arith)

pub insn_of_bytes : (i : Insn) → Fields i → insn_at (bytes_of i) 0 ≡ i
unfolding bytes_of insn_at signed_bytes unsigned_bytes lowest
insn_of_bytes i f =
    let r = i.dst % 16 + 16 * (i.src % 16) in
    let n = nibbles i.dst i.src f.dst f.src in
    let o = signed_of_bytes w16 (i.code ∷ r ∷ []) (signed_bytes w32 i.imm) i.off f.off in
    let m = signed_of_bytes w32 (i.code ∷ r ∷ signed_bytes w16 i.off) [] i.imm f.imm in
    λ j. record { code = i.code; dst = n.0 j; src = n.1 j; off = o j; imm = m j }

pub decode_encode : (i : Insn) → Fields i → decoded (bytes_of i) ≡ Ok i
unfolding decoded
decode_encode i f = rw (bytes_length i) (ap Ok (insn_of_bytes i f))

pub encode_decode : (b : List ℕ) → length b ≡ 8 → Bytes b → bytes_of (insn_at b 0) ≡ b
unfolding bytes_of insn_at
encode_decode b n h =
    let r : get_or b 1 0 % 16 % 16 + 16 * (get_or b 1 0 / 16 % 16) ≡ get_or b 1 0 = omega (arith, h.at 1) in
    let o = bytes_of_signed w16 b 2 h (omega arith) in
    let m = bytes_of_signed w32 b 4 h (omega arith) ∙ take_all 4 (drop 4 b) (simp length-drop (omega arith)) in
    let rest : take 2 (drop 2 b) ++ drop 4 b ≡ drop 2 b = rw (← drop-drop 2 2 b) (take-append-drop 2 (drop 2 b)) in
    let whole : b ≡ get_or b 0 0 ∷ get_or b 1 0 ∷ drop 2 b = drop-cons b 0 0 (omega arith) ∙ ap (λ (t : List ℕ). get_or b 0 0 ∷ t) (drop-cons b 1 0 (omega arith)) in
    cc
