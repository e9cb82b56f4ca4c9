-- Pieces one after the other, and what putting them leaves.
use mathlib.Core.Path.{◌≡◌, refl, sym, ap, ap₂, ◌∙◌}
use mathlib.Core.List.{List, [], ◌∷◌, ◌++◌}
use Prim.Native.Nat.{ℕ, ◌+◌, ◌*◌, ◌<◌, ◌≤◌}
use native.Mathlib.Omega.{arith}
use lib.ListN.{length, length-append, get_or, take}
use Rattle.std.proofs.Common.{take_all}
use Rattle.std.proofs.lemmas.List.{take_more}
use Rattle.wire.specs.Le.{le, bytes_of as lowest, unsigned_at, signed_at, unsigned_bytes, store}
use Rattle.insn.specs.Layout.{bytes_of, insn_at, insn_of}
use Rattle.insn.specs.declared.Insn.{Insn}
use Rattle.lower.specs.Op.{Op, plain, map, ja, jne, Lowered, becomes, refused, slots_of}
use Rattle.lower.specs.Put.{wide_insn, zero_insn, insns_in, put_at, put_lowered}
use Rattle.lower.specs.Held.{map_in, held}
use Rattle.lower.specs.Step.{chain, step_of, ops_of, map_ops, Holds, PutPiece, Puts}
use Rattle.lower.specs.declared.Reason.{Reason}
use Rattle.lower.specs.declared.piece.Piece.{Piece}
use Rattle.lower.specs.declared.piece.Piece.TheVariants as P
use Rattle.std.specs.Prelude.{Err, None, Ok, Option, Result, Some}

-- ---- putting

insns_append : (l m : List Op) → insns_in (l ++ m) ≡ insns_in l ++ insns_in m
unfolding insns_in
insns_append [] m = refl
insns_append (plain i ∷ l) m = rw (insns_append l m)
insns_append (map n ∷ l) m = rw (insns_append l m)
insns_append (ja to ∷ l) m = insns_append l m
insns_append (jne to ∷ l) m = insns_append l m

slots_append : (l m : List Op) → slots_of (l ++ m) ≡ slots_of l + slots_of m
unfolding slots_of
slots_append [] m = omega arith
slots_append (plain i ∷ l) m = let e = slots_append l m in omega arith
slots_append (map n ∷ l) m = let e = slots_append l m in omega arith
slots_append (ja to ∷ l) m = let e = slots_append l m in omega arith
slots_append (jne to ∷ l) m = let e = slots_append l m in omega arith

pub put_append : (x y : List Insn) (b : List ℕ) (at : ℕ) → put_at b at (x ++ y) ≡ put_at (put_at b at x) (at + 8 * length x) y
unfolding put_at
put_append [] y b at = ap (λ (n : ℕ). put_at b n y) (omega arith)
put_append (i ∷ x) y b at =
    put_append x y (store b at (bytes_of i)) (at + 8) ∙ ap (λ (n : ℕ). put_at (put_at (store b at (bytes_of i)) (at + 8) x) n y) (omega arith)

even_piece : (p : Piece) → length (insns_in (ops_of p)) ≡ slots_of (ops_of p)
unfolding insns_in ops_of slots_of
even_piece P.Nothing = refl
even_piece (P.One a) = refl
even_piece (P.Two a b) = refl

infixl 5 ◌▻◌
pub ◌▻◌ : {b₀ b₁ b : List ℕ} {at s n : ℕ} {l : List Op} {p : Piece} → Holds b₀ at l b₁ s → PutPiece b₁ at s p b n → Holds b₀ at (l ++ ops_of p) b n
◌▻◌ {b₀} {at = at} {l = l} {p} h q =
    record {
      code =
          q.code
          ∙ ap₂ (λ (x : List ℕ) (k : ℕ). put_at x (at + 8 * k) (insns_in (ops_of p))) h.code (h.filled ∙ sym h.even)
          ∙ sym (put_append (insns_in l) (insns_in (ops_of p)) b₀ at)
          ∙ ap (put_at b₀ at) (sym (insns_append l (ops_of p)));
      filled = q.next ∙ ap (λ (k : ℕ). k + slots_of (ops_of p)) h.filled ∙ sym (slots_append l (ops_of p));
      even =
          ap length (insns_append l (ops_of p)) ∙ length-append (insns_in l) (insns_in (ops_of p)) ∙ ap₂ ◌+◌ h.even (even_piece p) ∙ sym (slots_append l (ops_of p));
    }

-- ---- the answer

map_piece : (p : Piece) → map_in (ops_of p) ≡ None
unfolding map_in ops_of
map_piece P.Nothing = refl
map_piece (P.One a) = refl
map_piece (P.Two a b) = refl

map_append : (l : List Op) (p : Piece) → map_in (l ++ ops_of p) ≡ map_in l
unfolding map_in
map_append [] p = map_piece p
map_append (plain i ∷ l) p = map_append l p
map_append (map m ∷ l) p = refl
map_append (ja to ∷ l) p = map_append l p
map_append (jne to ∷ l) p = map_append l p

map_chain : (t : List Piece) (l : List Op) → map_in (chain l t) ≡ map_in l
unfolding chain
map_chain [] l = refl
map_chain (p ∷ t) l = map_chain t (l ++ ops_of p) ∙ map_append l p

map_told : (m : Option ℕ) → map_in (map_ops m) ≡ m
unfolding map_in map_ops
map_told None = refl
map_told (Some m) = refl

pub told : {m : Option ℕ} {s : ℕ} (l : List Op) → map_in l ≡ m → s ≡ slots_of l → Ok (record { map = m; slots = s }) ≡ held (becomes l)
unfolding held
told l e f = rw (sym e, f)

-- ---- pieces

-- a piece more
chain_append : (s t : List Piece) (l : List Op) → chain l (s ++ t) ≡ chain (chain l s) t
unfolding chain
chain_append [] t l = refl
chain_append (p ∷ s) t l = chain_append s t (l ++ ops_of p)

module _ {b₀ b : List ℕ} {at slots : ℕ} (m : Option ℕ) (t : List Piece) where
  pub put_more : {b₁ : List ℕ} {after : ℕ} (p : Piece) → Holds b₀ at (chain (map_ops m) t) b slots → PutPiece b at slots p b₁ after → Holds b₀ at (chain (map_ops m) (t ++ p ∷ [])) b₁ after
  unfolding chain
  put_more p h q = rw (chain_append t (p ∷ []) (map_ops m)) (h ▻ q)

  pub put_all : Holds b₀ at (chain (map_ops m) t) b slots → Puts b₀ at (becomes (chain (map_ops m) t)) b (Ok (record { map = m; slots = slots }))
  unfolding put_lowered
  put_all h = record { code = h.code; answer = told (chain (map_ops m) t) (map_chain t (map_ops m) ∙ map_told m) h.filled }

-- the pieces up to k, and one more; all of them
module _ {b₀ b : List ℕ} {at slots k : ℕ} (m : Option ℕ) (given : List Piece) (h : Holds b₀ at (chain (map_ops m) (take k given)) b slots) where
  pub put_next : {b₁ : List ℕ} {after : ℕ} (p : Piece) → k < length given → PutPiece b at slots (get_or given k p) b₁ after → Holds b₀ at (chain (map_ops m) (take (k + 1) given)) b₁ after
  put_next p lt q = rw (take_more given k p lt) (put_more m (take k given) (get_or given k p) h q)

  pub all_put : length given ≤ k → Puts b₀ at (becomes (chain (map_ops m) given)) b (Ok (record { map = m; slots = slots }))
  all_put le = put_all m given (rw (take_all k given le) at h)

-- ---- a piece, instruction by instruction

more : (b₀ : List ℕ) (at s t : ℕ) (i : Insn) {b₁ b : List ℕ} (l : List Insn) → t ≡ s + 1 → b₁ ≡ store b₀ (at + 8 * s) (bytes_of i) → b ≡ put_at b₁ (at + 8 * t) l
    → b ≡ put_at b₀ (at + 8 * s) (i ∷ l)
unfolding put_at
more b₀ at s t i l n e f = f ∙ ap₂ (λ (x : List ℕ) (k : ℕ). put_at x k l) e (omega arith)

module _ (b₀ : List ℕ) (at s : ℕ) {p : Piece} where
  pub put_nothing : p ≡ P.Nothing → PutPiece b₀ at s p b₀ s
  unfolding ops_of insns_in slots_of put_at
  put_nothing e = rw e (record { code = refl; next = omega arith; most = omega arith })

  pub put_one : {b₁ : List ℕ} {u : ℕ} → p ≡ P.One u → b₁ ≡ store b₀ (at + 8 * s) (bytes_of (insn_of u)) → PutPiece b₀ at s p b₁ (s + 1)
  unfolding ops_of insns_in slots_of put_at
  put_one e f = rw e (record { code = f; next = omega arith; most = omega arith })

  pub put_two : {b₁ b₂ : List ℕ} {u v : ℕ} → p ≡ P.Two u v → b₁ ≡ store b₀ (at + 8 * s) (bytes_of (insn_of u)) → b₂ ≡ store b₁ (at + 8 * (s + 1)) (bytes_of (insn_of v))
      → PutPiece b₀ at s p b₂ (s + 2)
  unfolding ops_of insns_in slots_of put_at
  put_two {u = u} {v} e f g = rw e (record { code = more b₀ at s (s + 1) (insn_of u) (insn_of v ∷ []) refl f g; next = omega arith; most = omega arith })

-- ---- the load of a map's address

zero_word : insn_of 0 ≡ zero_insn
unfolding insn_of insn_at signed_at unsigned_at unsigned_bytes lowest le
zero_word = refl

module _ (b₀ : List ℕ) (at : ℕ) {m : Option ℕ} where
  pub put_no_map : m ≡ None → Holds b₀ at (map_ops m) b₀ 0
  unfolding map_ops insns_in slots_of put_at
  put_no_map e = rw e (record { code = refl; filled = refl; even = refl })

  pub put_a_map : {n : ℕ} {i : Insn} {b₁ b₂ : List ℕ} → m ≡ Some n → i ≡ wide_insn → b₁ ≡ store b₀ (at + 8 * 0) (bytes_of i) → b₂ ≡ store b₁ (at + 8 * 1) (bytes_of (insn_of 0))
      → Holds b₀ at (map_ops m) b₂ 2
  unfolding map_ops insns_in slots_of put_at
  put_a_map e h f g =
      rw e
      (record {
        code = more b₀ at 0 1 wide_insn (zero_insn ∷ []) refl (rw h at f) (rw zero_word at g) ∙ ap (λ (k : ℕ). put_at b₀ k (wide_insn ∷ zero_insn ∷ [])) (omega arith);
        filled = refl;
        even = refl;
      })

-- ---- one step

pub step_is : {s : Result Insn Reason} {x : Lowered} {i : Insn} → step_of s ≡ x → s ≡ Ok i → becomes (plain i ∷ []) ≡ x
unfolding step_of
step_is e f = ap step_of (sym f) ∙ e

pub step_refused : {s : Result Insn Reason} {x : Lowered} {r : Reason} → step_of s ≡ x → s ≡ Err r → refused r ≡ x
unfolding step_of
step_refused e f = ap step_of (sym f) ∙ e
