-- An instruction's 8 bytes, read from a part of the code and written.
use mathlib.Core.Path.{◌≡◌, refl, sym, ap, ◌∙◌}
use mathlib.Core.List.{List, ◌++◌, append-nil}
use Prim.Native.Nat.{ℕ, ◌+◌, ◌/◌, ◌%◌, ◌<◌}
use native.Mathlib.Nat.{add-zero}
use native.Mathlib.Omega.{arith}
use lib.IntN.{ℤ}
use lib.ListN.{length, get_or, drop, drop_of_length-le}
use lib.Seq.{get_or-drop}
use mir.Syntax.{w16, w32}
use Rattle.wire.specs.Le.{byte_at, bytes_of as lowest, signed_at, unsigned_bytes, signed_bytes, store}
use Rattle.wire.proofs.Part.{signed_drop}
use Rattle.wire.proofs.Store.{store_parts, store_out}
use Rattle.insn.specs.Layout.{bytes_of, insn_at}
use Rattle.insn.specs.declared.Insn.{Insn}

pub bytes_length : (i : Insn) → length (bytes_of i) ≡ 8
unfolding bytes_of signed_bytes unsigned_bytes lowest
bytes_length i = refl

-- ---- reading

-- by the part from at on
pub insn_part : (b : List ℕ) (at : ℕ) {part : List ℕ} {code registers : ℕ} {off imm : ℤ} → part ≡ drop at b
    → code ≡ byte_at part 0 → registers ≡ byte_at part 1 → off ≡ signed_at w16 part 2 → imm ≡ signed_at w32 part 4
    → record { code = code; dst = registers % 16; src = registers / 16; off = off; imm = imm } ≡ insn_at b at
unfolding insn_at
insn_part b at e c r o m =
    let code = (rw e at c) ∙ get_or-drop at b 0 0 ∙ ap (λ (k : ℕ). get_or b k 0) (add-zero at) in
    let registers = (rw e at r) ∙ get_or-drop at b 1 0 in
    let off = (rw e at o) ∙ signed_drop b at 2 w16 in
    let imm = (rw e at m) ∙ signed_drop b at 4 w32 in
    λ j. record { code = code j; dst = registers j % 16; src = registers j / 16; off = off j; imm = imm j }

-- ---- writing

pub not_stored : (b : List ℕ) (at : ℕ) (i : Insn) → length b < at + 8 → b ≡ store b at (bytes_of i)
not_stored b at i h = sym (store_out b at (bytes_of i) (omega (arith, bytes_length i)))

-- 8 bytes are all replaced
pub stored_whole : (b : List ℕ) (i : Insn) → length b ≡ 8 → store b 0 (bytes_of i) ≡ bytes_of i
stored_whole b i h =
    let l = bytes_length i in
    store_parts b 0 (bytes_of i) (omega arith) ∙ ap (λ (t : List ℕ). bytes_of i ++ t) (drop_of_length-le b {i = 0 + length (bytes_of i)} (omega arith)) ∙ append-nil (bytes_of i)
