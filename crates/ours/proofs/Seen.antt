-- Code as bytes, slot by slot: each instruction of a list is read back at its slot.
use mathlib.Core.Path.{◌≡◌, refl, sym, ap, ◌∙◌}
use mathlib.Core.Bool.{true}
use mathlib.Core.List.{List, [], ◌∷◌, ◌++◌, append_assoc}
use Prim.Native.Nat.{ℕ, suc, ◌+◌, ◌*◌, ◌/◌, ◌%◌, ◌<◌, ◌≤◌}
use native.Mathlib.Nat.{add-zero}
use native.Mathlib.Omega.{arith}
use borrow.Author.Tests.{lt-ltb, eq-eqb, le-leb}
use lib.Dec.{eqb}
use lib.ListN.{length, get_or, length-append, get_or-append}
use lib.Seq.{append_snoc, get_or-append-add}
use mir.Syntax.{w16, w32}
use mir.Val.{SFits}
use Rattle.wire.specs.Le.{bytes_of as lowest, unsigned_bytes, signed_bytes}
use Rattle.wire.proofs.Le.{signed_inside, signed_of_bytes}
use Rattle.insn.specs.Layout.{Fields, bytes_of, insn_at, decoded}
use Rattle.insn.specs.declared.Insn.{Insn}
use Rattle.insn.proofs.Pieces.{bytes_length}
use Rattle.insn.proofs.RoundTrip.{decode_encode}
use Rattle.shape.specs.Code.{slots, at, wide}
use Rattle.shape.specs.Shapes.{length_ok}
use Rattle.layout.specs.Code.{code_bytes}
use Rattle.layout.proofs.Written.{code_append, code_length}

-- an instruction as it is read back from its bytes
unfoldable pub seen : Insn → Insn
seen i = insn_at (bytes_of i) 0

pub seen_is : (i : Insn) → Fields i → seen i ≡ i
unfolding seen decoded bytes_of signed_bytes unsigned_bytes lowest
seen_is i f = let e = decode_encode i f in cc

nibbles : (a b : ℕ) → a < 16 → b < 16 → ((a % 16 + 16 * (b % 16)) % 16 ≡ a) × ((a % 16 + 16 * (b % 16)) / 16 ≡ b)
nibbles a b h l =
    let x : a % 16 ≡ a = omega arith in
    let y : b % 16 ≡ b = omega arith in
    rw (x, y) (omega arith, omega arith)

-- all but the immediate, whatever that is
pub seen_but : (i : Insn) → i.dst < 16 → i.src < 16 → SFits w16 i.off → seen i ≡ record { code = i.code; dst = i.dst; src = i.src; off = i.off; imm = (seen i).imm }
unfolding seen insn_at bytes_of signed_bytes unsigned_bytes lowest
seen_but i d s f =
    let r = i.dst % 16 + 16 * (i.src % 16) in
    let n = nibbles i.dst i.src d s in
    let o = signed_of_bytes w16 (i.code ∷ r ∷ []) (signed_bytes w32 i.imm) i.off f in
    λ j. record { code = i.code; dst = n.0 j; src = n.1 j; off = o j; imm = (seen i).imm }

-- ---- at its slot

inside : (p v q : List ℕ) → length v ≡ 8 → insn_at (p ++ v ++ q) (length p) ≡ insn_at v 0
unfolding insn_at
inside p v q h =
    let byte : (k : ℕ) → k < 8 → get_or (p ++ v ++ q) (length p + k) 0 ≡ get_or v k 0 =
    λ k l. get_or-append (p ++ v) q 0 (length p + k) (simp length-append (omega arith)) ∙ get_or-append-add p v k 0 in
    let first = ap (λ (k : ℕ). get_or (p ++ v ++ q) k 0) (sym (add-zero (length p))) ∙ byte 0 (omega arith) in
    let second = byte 1 (omega arith) in
    let o = signed_inside w16 p v q 2 (omega arith) in
    let m = signed_inside w32 p v q 4 (omega arith) in
    λ j. record { code = first j; dst = second j % 16; src = second j / 16; off = o j; imm = m j }

there : (front : List Insn) (i : Insn) (rest : List Insn) → at (code_bytes (front ++ (i ∷ rest))) (length front) ≡ seen i
unfolding at seen code_bytes
there front i rest =
    let whole : code_bytes (front ++ (i ∷ rest)) ≡ code_bytes front ++ bytes_of i ++ code_bytes rest =
    code_append front (i ∷ rest) ∙ sym (append_assoc (code_bytes front) (bytes_of i) (code_bytes rest)) in
    rw (whole, ← code_length front) (inside (code_bytes front) (bytes_of i) (code_bytes rest) (bytes_length i))

-- instructions stand one after the other from slot s on
abbrev pub Stands : List ℕ → ℕ → List Insn → Type 0
Stands b s [] = Unit {0}
Stands b s (i ∷ is) = (at b s ≡ seen i) × Stands b (suc s) is

behind : (front is : List Insn) → Stands (code_bytes (front ++ is)) (length front) is
behind front [] = tt
behind front (i ∷ is) =
    let n : length (front ++ (i ∷ [])) ≡ suc (length front) = simp length-append (omega arith) in
    (there front i is, rw (append_snoc front i is, n) at (behind (front ++ (i ∷ [])) is))

pub stands_all : (is : List Insn) → Stands (code_bytes is) 0 is
stands_all is = behind [] is

pub stands_front : (b : List ℕ) (s : ℕ) (a c : List Insn) → Stands b s (a ++ c) → Stands b s a
stands_front b s [] c h = tt
stands_front b s (i ∷ a) c h = (h.0, stands_front b (suc s) a c h.1)

pub stands_back : (b : List ℕ) (s : ℕ) (a c : List Insn) → Stands b s (a ++ c) → Stands b (s + length a) c
stands_back b s [] c h = rw add-zero h
stands_back b s (i ∷ a) c h =
    let e : s + suc (length a) ≡ suc s + length a = omega arith in
    rw e (stands_back b (suc s) a c h.1)

-- ---- slots, lengths, first bytes

pub slots_count : (is : List Insn) → slots (code_bytes is) ≡ length is
unfolding slots
slots_count is = omega (arith, code_length is)

pub length_fine : (is : List Insn) → 0 < length is → length is ≤ 131072 → length_ok (code_bytes is) ≡ true
unfolding length_ok
length_fine is h l =
    let n = code_length is in
    simp (lt-ltb 0 (length (code_bytes is)) (omega arith), eq-eqb (length (code_bytes is) % 8) 0 (omega arith), le-leb (length (code_bytes is)) 1048576 (omega arith))

pub seen_code : (i : Insn) → (seen i).code ≡ i.code
unfolding seen insn_at bytes_of
seen_code i = refl

pub wide_by : (b : List ℕ) (s : ℕ) (i : Insn) → at b s ≡ seen i → wide b s ≡ eqb i.code 0x18
unfolding wide at insn_at
wide_by b s i e = ap (λ (x : Insn). eqb x.code 0x18) e ∙ ap (λ (n : ℕ). eqb n 0x18) (seen_code i)
