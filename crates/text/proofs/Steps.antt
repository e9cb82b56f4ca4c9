-- A byte set before or after what is still to be stored.
use mathlib.Core.Path.{◌≡◌, refl, sym, ap, ◌∙◌}
use mathlib.Core.Bool.{Bool, true, false}
use mathlib.Core.List.{List, [], ◌∷◌, ◌++◌, append_assoc}
use Prim.Native.Nat.{ℕ, suc, ◌+◌, ◌*◌, ◌-◌, ◌/◌, ◌%◌, ◌<◌, ◌≤◌}
use native.Mathlib.Nat.{add_assoc}
use native.Mathlib.Numerals.{add-one}
use native.Mathlib.Omega.{arith}
use lib.Dec.{leb}
use lib.ListN.{length, get_or, set, take, drop, length-set, length-drop, drop_of_length-le}
use lib.Seq.{sets, drop-cons}
use Rattle.std.proofs.lemmas.List.{take_more, take_more_set}
use Rattle.wire.specs.Pick.{pick}
use Rattle.wire.specs.Le.{store}
use Rattle.wire.proofs.Store.{store_in}
use Rattle.text.specs.Digits.{digit, hex, shown, shown_name}

-- nothing is left to store
pub nothing : (b : List ℕ) (i : ℕ) → store b i [] ≡ b
unfolding store
nothing b i = go (leb (i + 0) (length b))
  where
    go : (t : Bool) → pick t b b ≡ b
    go true = refl
    go false = refl

-- the first byte is set, the rest are left
first_set : (b : List ℕ) (i a : ℕ) (v : List ℕ) → i + suc (length v) ≤ length b → store (set b i a) (i + 1) v ≡ store b i (a ∷ v)
first_set b i a v h =
    store_in (set b i a) (i + 1) v (simp length-set (omega arith))
    ∙ ap (λ (j : ℕ). sets (set b i a) j v) (add-one i)
    ∙ sym (store_in b i (a ∷ v) h)

-- ---- names

pub name_length : (s : List ℕ) → length (shown_name s) ≡ length s
unfolding shown_name
name_length [] = refl
name_length (x ∷ xs) = ap suc (name_length xs)

name_cut : (s : List ℕ) (k : ℕ) → k < length s → shown_name (drop k s) ≡ shown (get_or s k 0) ∷ shown_name (drop (k + 1) s)
unfolding shown_name
name_cut s k h = rw (add-one, drop-cons s k 0 h)

-- byte k is set, and those after it are left
pub name_step : (b s : List ℕ) (at k : ℕ) {a : ℕ} → a ≡ shown (get_or s k 0) → k < length s → at + length s ≤ length b → store (set b (at + k) a) (at + (k + 1)) (shown_name (drop (k + 1) s)) ≡ store b (at + k) (shown_name (drop k s))
name_step b s at k {a} e h l =
    let v = shown_name (drop (k + 1) s) in
    let n : length v ≡ length s - (k + 1) = name_length (drop (k + 1) s) ∙ length-drop (k + 1) s in
    rw (name_cut s k h, ← e, ← add_assoc at k 1) (first_set b (at + k) a v (omega arith))

pub name_end : (b s : List ℕ) (at k : ℕ) → length s ≤ k → store b (at + k) (shown_name (drop k s)) ≡ b
unfolding shown_name
name_end b s at k h = ap (λ (l : List ℕ). store b (at + k) (shown_name l)) (drop_of_length-le s h) ∙ nothing b (at + k)

-- ---- hexadecimal digits

pub hex_length : (s : List ℕ) → length (hex s) ≡ 2 * length s
unfolding hex
hex_length [] = refl
hex_length (x ∷ xs) = omega (arith, hex_length xs)

hex_push : (s : List ℕ) (x : ℕ) → hex (s ++ (x ∷ [])) ≡ hex s ++ (digit (x / 16) ∷ digit (x % 16) ∷ [])
unfolding hex
hex_push [] x = refl
hex_push (y ∷ s) x = ap (λ (l : List ℕ). digit (y / 16) ∷ digit (y % 16) ∷ l) (hex_push s x)

-- the digits of byte k of s are set after those of the bytes before
pub hex_step : (b s : List ℕ) (k : ℕ) {p q : ℕ} → k < length s → 2 * length s ≤ length b → p ≡ digit (get_or s k 0 / 16) → q ≡ digit (get_or s k 0 % 16) → take (2 * k) b ≡ hex (take k s) → take (2 * (k + 1)) (set (set b (2 * k) p) (2 * k + 1) q) ≡ hex (take (k + 1) s)
hex_step b s k {p} {q} h l e f g =
    let two : 2 * (k + 1) ≡ 2 * k + 1 + 1 = omega arith in
    let same : hex (take (k + 1) s) ≡ (hex (take k s) ++ (p ∷ [])) ++ (q ∷ []) = rw (take_more s k 0 h, hex_push, e, f) (sym (append_assoc (hex (take k s)) (digit (get_or s k 0 / 16) ∷ []) (digit (get_or s k 0 % 16) ∷ []))) in
    rw (two, same, take_more_set (set b (2 * k) p) (2 * k + 1) q (simp length-set (omega arith)), take_more_set b (2 * k) p (omega arith), g)
