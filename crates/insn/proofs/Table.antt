-- Rules that hold at each number below a bound, by one test that antt computes; and lists of a function's values.
use mathlib.Core.Path.{◌≡◌, sym, ◌∙◌, subst}
use mathlib.Core.Bool.{Bool, true, false}
use mathlib.Core.Logic.{⊎_elim}
use mathlib.Core.List.{List, [], ◌∷◌}
use Prim.Native.Nat.{ℕ, zero, suc, ◌+◌, ◌<◌}
use native.Mathlib.Nat.{add-zero, add-suc, suc-add, eq-or-lt_of_le}
use native.Mathlib.Omega.{arith}
use lib.Dec.{T}
use lib.ListN.{get_or}
use Rattle.wire.specs.Pick.{both}

both_left : (a b : Bool) → T (both a b) → T a
both_left true b t = tt
both_left false b t = t

both_right : (a b : Bool) → T (both a b) → T b
both_right true b t = t
both_right false b t = absurd t

-- the test p passes at each number below n
abbrev pub every : (ℕ → Bool) → ℕ → Bool
every p zero = true
every p (suc n) = both (p n) (every p n)

pub each : (p : ℕ → Bool) (n : ℕ) → T (every p n) → (k : ℕ) → k < n → T (p k)
each p zero t k h = absurd (omega arith)
each p (suc n) t k h =
    ⊎_elim (λ (e : k ≡ n). subst (λ (m : ℕ). T (p m)) (sym e) (both_left (p n) (every p n) t))
    (each p n (both_right (p n) (every p n) t) k)
    (eq-or-lt_of_le (omega arith))

-- the values of f at n numbers from c on
abbrev pub listed : {A : Type 0} → (ℕ → A) → ℕ → ℕ → List A
listed f c zero = []
listed f c (suc n) = f c ∷ listed f (suc c) n

pub listed_at : {A : Type 0} (f : ℕ → A) (d : A) (c n k : ℕ) → k < n → get_or (listed f c n) k d ≡ f (c + k)
listed_at f d c zero k h = absurd (omega arith)
listed_at f d c (suc n) zero h = simp add-zero
listed_at f d c (suc n) (suc k) h = simp add-suc (listed_at f d (suc c) n k (omega arith) ∙ simp suc-add)
