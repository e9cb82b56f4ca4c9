-- Steps decided one by one: the operations so far, or the first refusal; and words put one after the other.
use mathlib.Core.Path.{◌≡◌, refl, sym, ap, ◌∙◌}
use mathlib.Core.List.{List, [], ◌∷◌, ◌++◌}
use Prim.Native.Nat.{ℕ, ◌+◌, ◌*◌, ◌<◌, ◌≤◌}
use native.Mathlib.Omega.{arith}
use lib.ListN.{length, get_or, take}
use Rattle.std.proofs.Common.{take_all}
use Rattle.std.proofs.lemmas.List.{take_more}
use Rattle.wire.specs.Le.{store}
use Rattle.insn.specs.Layout.{bytes_of, insn_of}
use Rattle.lower.specs.Op.{Op, plain, Lowered, becomes, refused, slots_of, ◌▸◌}
use Rattle.lower.specs.Operand.{map_address}
use Rattle.lower.specs.Put.{insns_in, put_at, put_lowered}
use Rattle.lower.specs.Held.{map_in}
use Rattle.lower.specs.Step.{ops_in, words, word_is, ops_of, piece_of, map_ops, Holds, Puts}
use Rattle.lower.specs.declared.Reason.{Reason}
use Rattle.lower.specs.declared.piece.Piece.{Piece}
use Rattle.lower.specs.declared.piece.Piece.TheVariants as P
use Rattle.lower.proofs.Compose.{◌▹◌, assoc, refused_first}
use Rattle.lower.proofs.Steps.{told, put_one, ◌▻◌}
use Rattle.std.specs.Prelude.{Err, None, Ok, Result, Some}

-- ---- deciding

-- x is these operations
pub record Are (l : List Op) (x : Lowered) : Type 0 where
  pub same : becomes l ≡ x

pub itself : (a : ℕ) → Are (plain (insn_of a) ∷ []) (words (a ∷ []))
unfolding words ops_in
itself a = record { same = refl }

pub map_is : (m : ℕ) → Are (map_ops (Some m)) (map_address m)
unfolding map_ops map_address
map_is m = record { same = refl }

pub known : {l : List Op} {x : Lowered} → becomes l ≡ x → Are l x
known e = record { same = e }

-- x by another name
infixl 4 ◌is◌
pub ◌is◌ : {l : List Op} {x y : Lowered} → Are l x → x ≡ y → Are l y
a is e = record { same = a.same ∙ e }

-- a word and a piece known as x, or refused
module _ {w : Result ℕ Reason} {x : Lowered} (e : word_is w ≡ x) where
  pub word_is_lem : {a : ℕ} → w ≡ Ok a → Are (plain (insn_of a) ∷ []) x
  unfolding word_is words ops_in
  word_is_lem f = record { same = ap word_is (sym f) ∙ e }

  pub word_refused : {r : Reason} → w ≡ Err r → refused r ≡ x
  unfolding word_is
  word_refused f = ap word_is (sym f) ∙ e

module _ {p : Result Piece Reason} {x : Lowered} (e : piece_of p ≡ x) where
  pub piece_is : {q : Piece} → p ≡ Ok q → Are (ops_of q) x
  unfolding piece_of
  piece_is f = record { same = ap piece_of (sym f) ∙ e }

  pub piece_refused : {r : Reason} → p ≡ Err r → refused r ≡ x
  unfolding piece_of
  piece_refused f = ap piece_of (sym f) ∙ e

-- operations after operations, a refusal after operations, and what comes after a refusal
infixl 5 ◌then◌
pub ◌then◌ : {a b : List Op} {x y : Lowered} → Are a x → Are b y → Are (a ++ b) (x ▸ y)
unfolding ◌▸◌
e then f = record { same = e.same ▹ f.same }

-- two or three of a chain that are one part of it; and one that is two parts
pub pair : {l a b : List Op} {x u v y : Lowered} → Are l x → Are a u → Are b v → (u ▸ v) ≡ y → Are ((l ++ a) ++ b) (x ▸ y)
pair {x = x} {u} {v} d e f w = d then e then f is (assoc x u v ∙ (refl ▹ w))

pub triple : {l a b c : List Op} {x u v w y : Lowered} → Are l x → Are a u → Are b v → Are c w → (u ▸ v ▸ w) ≡ y → Are (((l ++ a) ++ b) ++ c) (x ▸ y)
triple {x = x} {u} {v} {w} d e f g h = d then e then f then g is ((assoc x u v ▹ refl) ∙ assoc x (u ▸ v) w ∙ (refl ▹ h))

pub split : {l a : List Op} {x : Lowered} (u v : Lowered) → Are l x → Are a (u ▸ v) → Are (l ++ a) (x ▸ u ▸ v)
split {x = x} u v d e = d then e is sym (assoc x u v)

pub stops : {a : List Op} {x y : Lowered} {r : Reason} → Are a x → refused r ≡ y → refused r ≡ (x ▸ y)
unfolding ◌▸◌
stops e f = e.same ▹ f

pub past : {x : Lowered} {r : Reason} (y : Lowered) → refused r ≡ x → refused r ≡ (x ▸ y)
past y e = refused_first y ∙ (e ▹ refl)

-- ---- putting

-- b is b₀ with these words from `at` on, which fill so many slots
pub record Filled (b₀ : List ℕ) (at : ℕ) (l : List ℕ) (b : List ℕ) (slots : ℕ) : Type 0 where
  pub holds : Holds b₀ at (ops_in l) b slots

pub start : (b₀ : List ℕ) (at : ℕ) → Filled b₀ at [] b₀ 0
unfolding ops_in insns_in slots_of put_at
start b₀ at = record { holds = record { code = refl; filled = refl; even = refl } }

ops_append : (a b : List ℕ) → ops_in (a ++ b) ≡ ops_in a ++ ops_in b
unfolding ops_in
ops_append [] b = refl
ops_append (w ∷ a) b = rw (ops_append a b)

pub put_word : (a : ℕ) {b₀ b₁ b l : List ℕ} {at s : ℕ} → Filled b₀ at l b₁ s → b ≡ store b₁ (at + 8 * s) (bytes_of (insn_of a)) → Filled b₀ at (l ++ a ∷ []) b (s + 1)
unfolding ops_in ops_of
put_word a {b₁ = b₁} {l = l} {at} {s} h e = record { holds = rw (ops_append l (a ∷ [])) (h.holds ▻ put_one b₁ at s {p = P.One a} refl e) }

map_words : (l : List ℕ) → map_in (ops_in l) ≡ None
unfolding map_in ops_in
map_words [] = refl
map_words (w ∷ l) = map_words l

pub put_words : {b₀ b l : List ℕ} {at slots : ℕ} → Filled b₀ at l b slots → Puts b₀ at (words l) b (Ok (record { map = None; slots = slots }))
unfolding words put_lowered
put_words {l = l} h = record { code = h.holds.code; answer = told (ops_in l) (map_words l) h.holds.filled }

-- the words up to k, and one more; all of them
module _ (given : List ℕ) {b₀ b : List ℕ} {at k : ℕ} (h : Filled b₀ at (take k given) b k) where
  pub put_next : {b₁ : List ℕ} → k < length given → b₁ ≡ store b (at + 8 * k) (bytes_of (insn_of (get_or given k 0))) → Filled b₀ at (take (k + 1) given) b₁ (k + 1)
  put_next lt e = rw (take_more given k 0 lt) (put_word (get_or given k 0) h e)

  pub all_put : (n : ℕ) → length given ≡ n → n ≤ k → k ≤ n → Puts b₀ at (words given) b (Ok (record { map = None; slots = n }))
  all_put n e f g = let same : k ≡ n = omega arith in rw same at (put_words (rw (take_all k given (omega arith)) at h))
