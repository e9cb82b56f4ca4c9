-- An instruction as one number: its fields, its bytes, and back.
use mathlib.Core.Path.{◌≡◌, sym, ap, ◌∙◌}
use mathlib.Core.List.{List, [], ◌∷◌}
use Prim.Native.Nat.{ℕ, zero, suc, ◌+◌, ◌*◌, ◌%◌, ◌<◌}
use native.Mathlib.Omega.{arith}
use lib.ListN.{get_or}
use lib.Seq.{take_all}
use mir.Syntax.{w16, w32, w64}
use mir.Val.{SFits, of_z}
use mir.ValLaws.{of_z_fits}
use Rattle.wire.specs.Le.{Bytes, le, bytes_of as lowest, unsigned_bytes, signed_bytes}
use Rattle.wire.proofs.Le.{bytes_append, le_split, signed_bytes_lem, unsigned_bytes_lem, unsigned_length, unsigned_in, unsigned_of_bytes, bytes_of_unsigned}
use Rattle.insn.specs.Layout.{Fields, bytes_of, insn_at, word_of, insn_of}
use Rattle.insn.specs.declared.Insn.{Insn}
use Rattle.insn.proofs.Pieces.{bytes_length}
use Rattle.insn.proofs.RoundTrip.{insn_of_bytes, encode_decode}

-- ---- the number from the fields

pub word_is_lem : (i : Insn) → SFits w16 i.off → SFits w32 i.imm → {x y : ℕ} → x ≡ of_z w16 i.off → y ≡ of_z w32 i.imm
    → i.code + 256 * (i.dst % 16 + 16 * (i.src % 16)) + 65536 * x + 4294967296 * y ≡ word_of i
unfolding word_of bytes_of signed_bytes unsigned_bytes lowest le
word_is_lem i f g e h =
    let n = bytes_length i in
    let c = i.code in
    let r = i.dst % 16 + 16 * (i.src % 16) in
    let x = of_z w16 i.off in
    let y = of_z w32 i.imm in
    let b = bytes_of i in
    let off : le 2 b 2 ≡ x = sym (unsigned_in w16 b 2 (omega arith)) ∙ unsigned_of_bytes w16 (c ∷ r ∷ []) (unsigned_bytes w32 y) x (of_z_fits w16 i.off f).fits in
    let imm : le 4 b 4 ≡ y = sym (unsigned_in w32 b 4 (omega arith)) ∙ unsigned_of_bytes w32 (c ∷ r ∷ unsigned_bytes w16 x) [] y (of_z_fits w32 i.imm g).fits in
    omega (arith, off, imm, le_split 4 4 b 0, le_split 2 2 b 0)

-- ---- the number and the bytes

insn_bytes : (i : Insn) → i.code < 256 → Bytes (bytes_of i)
unfolding bytes_of
insn_bytes i h =
    bytes_append (i.code ∷ (i.dst % 16 + 16 * (i.src % 16)) ∷ signed_bytes w16 i.off) (signed_bytes w32 i.imm) (record { at = two }) (signed_bytes_lem w32 i.imm)
  where
    two : (k : ℕ) → get_or (i.code ∷ (i.dst % 16 + 16 * (i.src % 16)) ∷ signed_bytes w16 i.off) k 0 < 256
    two zero = h
    two (suc zero) = omega arith
    two (suc (suc k)) = (signed_bytes_lem w16 i.off).at k

pub word_bytes : (i : Insn) → i.code < 256 → unsigned_bytes w64 (word_of i) ≡ bytes_of i
unfolding word_of
word_bytes i h =
    let n = bytes_length i in
    ap (unsigned_bytes w64) (sym (unsigned_in w64 (bytes_of i) 0 (omega arith)))
    ∙ bytes_of_unsigned w64 (bytes_of i) 0 (insn_bytes i h) (omega arith)
    ∙ take_all 8 (bytes_of i) (omega arith)

pub bytes_insn : (w : ℕ) → bytes_of (insn_of w) ≡ unsigned_bytes w64 w
unfolding insn_of
bytes_insn w = encode_decode (unsigned_bytes w64 w) (unsigned_length w64 w) (unsigned_bytes_lem w64 w)

-- ---- the number and the instruction

pub insn_word : (i : Insn) → i.code < 256 → Fields i → insn_of (word_of i) ≡ i
unfolding insn_of
insn_word i h f = ap (λ (b : List ℕ). insn_at b 0) (word_bytes i h) ∙ insn_of_bytes i f
