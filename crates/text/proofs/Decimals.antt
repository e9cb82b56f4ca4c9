-- Decimal digits: a number below 10 has one, any other has those of its tenth and one more.
use mathlib.Core.Path.{◌≡◌, refl, sym, ap, ◌∙◌}
use mathlib.Core.Bool.{Bool, true, false}
use mathlib.Core.List.{List, [], ◌∷◌, ◌++◌}
use Prim.Native.Nat.{ℕ, zero, suc, ◌+◌, ◌*◌, ◌-◌, ◌/◌, ◌%◌, ◌^◌, ◌<◌, ◌≤◌}
use native.Mathlib.Nat.{pow-succ'}
use native.Mathlib.Omega.{arith}
use borrow.Author.Tests.{lt-ltb, le-ltb, ltb-true, ltb-false}
use lib.Dec.{ltb}
use lib.ListN.{length, get_or, take, length-append}
use Rattle.std.specs.Fmt as std
use Rattle.std.specs.Str.Parse.{AllDigits}
use Rattle.std.proofs.Common.{rules}
use Rattle.std.proofs.lemmas.Fmt.{decimal_from_appends, decimal_step, length-decimal-le, digits_value-decimal, first_decimal}
use Rattle.std.proofs.lemmas.List.{take_more, same_from_push, length-take-le, ext_get_or, get_or-take}
use Rattle.std.proofs.lemmas.Str.Parse.{IsNumeralModel, numerals_by_fold, tells_digits}
use Rattle.wire.specs.Pick.{pick}
use Rattle.text.specs.Digits.{digit, digits_of, decimal, value_from, value_of}

low_digit : (d : ℕ) → d < 10 → digit d ≡ 48 + d
unfolding digit
low_digit d h = rw (lt-ltb d 10 h)

digits_one : (k n : ℕ) → n < 10 → digits_of (suc k) n ≡ (48 + n) ∷ []
unfolding digits_of
digits_one k n h = rw (lt-ltb n 10 h) (ap (λ (d : ℕ). d ∷ []) (low_digit n h))

digits_more : (k n : ℕ) → 10 ≤ n → digits_of (suc k) n ≡ digits_of k (n / 10) ++ ((48 + n % 10) ∷ [])
unfolding digits_of
digits_more k n h = rw (le-ltb n 10 h) (ap (λ (d : ℕ). digits_of k (n / 10) ++ (d ∷ [])) (low_digit (n % 10) (omega arith)))

-- ---- of a number of 64 bits: the library's text of the number

library : (n : ℕ) → n < 2 ^ 64 → decimal n ≡ std.decimal n
unfolding decimal
library n h =
    decimal_from_appends digits_of (record { one = digits_one; more = digits_more }) 20 n h (length-decimal-le 20 n (omega arith) (omega arith) h)

pub one_digit : (n : ℕ) → n < 10 → decimal n ≡ (48 + n) ∷ []
unfolding decimal
one_digit n h = digits_one 19 n h

pub more_digits : (n : ℕ) → n < 2 ^ 64 → 10 ≤ n → decimal n ≡ decimal (n / 10) ++ ((48 + n % 10) ∷ [])
more_digits n h l = rw (library n h, library (n / 10) (omega arith)) (decimal_step n l h)

-- their count, from the power of 10 that the number reaches
pub count : (k n : ℕ) → n < 2 ^ 64 → 10 ^ k ≤ n → n < 10 * 10 ^ k → length (decimal n) ≡ k + 1
count zero n h l u = ap length (one_digit n (omega arith))
count (suc k) n h l u =
    let p : 10 ^ suc k ≡ 10 * 10 ^ k = pow-succ' 10 k in
    let tenth : length (decimal (n / 10)) ≡ k + 1 = count k (n / 10) (omega arith) (omega arith) (omega arith) in
    ap length (more_digits n h (omega arith)) ∙ length-append (decimal (n / 10)) ((48 + n % 10) ∷ []) ∙ omega arith

pub one_count : (n : ℕ) → n < 10 → length (decimal n) ≡ 1
one_count n h = ap length (one_digit n h)

pub ruleset counts = (count, one_count)

-- ---- of any number

digits_most : (k n : ℕ) → length (digits_of k n) ≤ k
unfolding digits_of
digits_most zero n = omega arith
digits_most (suc k) n = go (ltb n 10) (digits_of k (n / 10)) (digits_most k (n / 10))
  where
    go : (t : Bool) (l : List ℕ) → length l ≤ k → length (pick t (digit n ∷ []) (l ++ (digit (n % 10) ∷ []))) ≤ suc k
    go true l h = omega arith
    go false l h = simp length-append (omega arith)

pub at_most_20 : (n : ℕ) → length (decimal n) ≤ 20
unfolding decimal
at_most_20 n = digits_most 20 n

-- ---- digits taken from the last on

-- x has the first i digits of ds: its last is digit i - 1, and its tenth has those before
pub record Last (x i : ℕ) (ds : List ℕ) : Type 0 where
  pub digit : 48 + x % 10 ≡ get_or ds (i - 1) 0
  pub before : 0 < i - 1 → decimal (x / 10) ≡ take (i - 1) ds

pub last : (x i : ℕ) (ds : List ℕ) → x < 2 ^ 64 → 0 < i → i ≤ length ds → decimal x ≡ take i ds → Last x i ds
last x i ds h p l e = go (ltb x 10) refl
  where
    cut : decimal x ≡ take (i - 1) ds ++ (get_or ds (i - 1) 0 ∷ [])
    cut = e ∙ ap (λ (k : ℕ). take k ds) (omega arith) ∙ take_more ds (i - 1) 0 (omega arith)

    go : (t : Bool) → ltb x 10 ≡ t → Last x i ds
    go true t =
        let low : x < 10 = ltb-true x 10 t in
        let same = same_from_push [] (take (i - 1) ds) (48 + x) (get_or ds (i - 1) 0) (sym (one_digit x low) ∙ cut) in
        let none : 0 ≡ i - 1 = ap length same.0 ∙ length-take-le (i - 1) ds (omega arith) in
        record { digit = omega (arith, same.1); before = λ p. absurd (omega arith) }
    go false t =
        let same = same_from_push (decimal (x / 10)) (take (i - 1) ds) (48 + x % 10) (get_or ds (i - 1) 0) (sym (more_digits x h (ltb-false x 10 t)) ∙ cut) in
        record { digit = same.1; before = λ p. same.0 }

-- they are all there
pub all_there : (text ds : List ℕ) (n : ℕ) → n ≡ length ds → n ≤ length text → ((k : ℕ) → 0 ≤ k → k < n → get_or text k 0 ≡ get_or ds k 0) → take n text ≡ ds
all_there text ds n e l h =
    let m : length (take n text) ≡ n = length-take-le n text l in
    ext_get_or 0 (take n text) ds (omega arith) (λ k b. get_or-take n text k 0 (omega arith) ∙ h k (omega arith) (omega arith))

-- ---- the digits are bytes 48 to 57, they say the number, and the first is no zero

abbrev IsDigit : ℕ → Type 0
IsDigit d = (48 ≤ d) × (d ≤ 57)

low_is_digit : (d : ℕ) → d < 10 → IsDigit (digit d)
low_is_digit d h = rw (low_digit d h) (omega arith, omega arith)

last_digit : (l : List ℕ) (d : ℕ) → ((i : ℕ) → i < length l → IsDigit (get_or l i 0)) → IsDigit d → (i : ℕ) → i < length (l ++ (d ∷ [])) → IsDigit (get_or (l ++ (d ∷ [])) i 0)
last_digit [] d h s zero r = s
last_digit [] d h s (suc i) r = absurd (omega arith)
last_digit (x ∷ l) d h s zero r = h 0 (omega arith)
last_digit (x ∷ l) d h s (suc i) r = last_digit l d (λ k q. h (suc k) (omega arith)) s i (omega arith)

all_digits : (k n i : ℕ) → i < length (digits_of k n) → IsDigit (get_or (digits_of k n) i 0)
unfolding digits_of
all_digits zero n i r = absurd (omega arith)
all_digits (suc k) n i r = go (ltb n 10) refl (digits_of k (n / 10)) (all_digits k (n / 10)) i r
  where
    go : (t : Bool) → ltb n 10 ≡ t → (l : List ℕ) → ((i : ℕ) → i < length l → IsDigit (get_or l i 0))
        → (i : ℕ) → i < length (pick t (digit n ∷ []) (l ++ (digit (n % 10) ∷ []))) → IsDigit (get_or (pick t (digit n ∷ []) (l ++ (digit (n % 10) ∷ []))) i 0)
    go true e l h = last_digit [] (digit n) (λ i r. absurd (omega arith)) (low_is_digit n (ltb-true n 10 e))
    go false e l h = last_digit l (digit (n % 10)) h (low_is_digit (n % 10) (omega arith))

pub decimal_digits : (n i : ℕ) → i < length (decimal n) → (48 ≤ get_or (decimal n) i 0) × (get_or (decimal n) i 0 ≤ 57)
unfolding decimal
decimal_digits n = all_digits 20 n

own : IsNumeralModel (AllDigits 10) value_of
own = numerals_by_fold _ tells_digits value_from (search rules)

pub decimal_value : (n : ℕ) → n < 2 ^ 64 → value_of (decimal n) ≡ n
decimal_value n h = rw (library n h) (digits_value-decimal own n h)

pub no_leading_zero : (n : ℕ) → n < 2 ^ 64 → 0 < n → 48 < get_or (decimal n) 0 0
no_leading_zero n h p = rw (library n h) (first_decimal n p h)
