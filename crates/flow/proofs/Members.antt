-- Laws of `among` and of ids joined to a list of them.
use mathlib.Core.Path.{◌≡◌, refl, sym, ap, ◌∙◌}
use mathlib.Core.Bool.{Bool, true, false}
use mathlib.Core.Logic.{◌⊎◌, inl, inr, ⊎_elim}
use mathlib.Core.List.{List, [], ◌∷◌, ◌++◌}
use Prim.Native.Nat.{ℕ, zero, suc, ◌<◌, zero-le, suc-le-suc}
use native.Mathlib.Nat.{le_of_suc-le-suc, not-suc-le-zero}
use borrow.Author.Tests.{eq-eqb, eqb-true}
use lib.Dec.{eqb}
use lib.ListN.{length, get_or}
use Rattle.std.proofs.lemmas.Bool.{both_ways, cases_Bool}
use Rattle.wire.specs.Pick.{pick, either}
use Rattle.flow.specs.Node.{among}
use Rattle.flow.specs.Computed.{join}

-- ---- among

pub among_none : (x : ℕ) → among x [] ≡ true → ⊥
unfolding among
among_none x h = both_ways false refl h

pub among_first : (x y : ℕ) (l : List ℕ) → x ≡ y → among x (y ∷ l) ≡ true
unfolding among
among_first x y l e = rw (eq-eqb x y e)

pub among_later : (x y : ℕ) (l : List ℕ) → among x l ≡ true → among x (y ∷ l) ≡ true
unfolding among
among_later x y l h = rw h (go (eqb x y))
  where
    go : (b : Bool) → either b true ≡ true
    go true = refl
    go false = refl

pub among_cases : (x y : ℕ) (l : List ℕ) → among x (y ∷ l) ≡ true → (x ≡ y) ⊎ (among x l ≡ true)
unfolding among
among_cases x y l h = ⊎_elim (λ (t : eqb x y ≡ true). inl (eqb-true x y t)) (λ (f : eqb x y ≡ false). inr (rw f at h)) (cases_Bool (eqb x y))

pub among_left : (x : ℕ) (l m : List ℕ) → among x l ≡ true → among x (l ++ m) ≡ true
among_left x [] m h = absurd (among_none x h)
among_left x (y ∷ l) m h =
    ⊎_elim (λ (e : x ≡ y). among_first x y (l ++ m) e) (λ (k : among x l ≡ true). among_later x y (l ++ m) (among_left x l m k)) (among_cases x y l h)

pub among_right : (x : ℕ) (l m : List ℕ) → among x m ≡ true → among x (l ++ m) ≡ true
among_right x [] m h = h
among_right x (y ∷ l) m h = among_later x y (l ++ m) (among_right x l m h)

pub among_append : (x : ℕ) (l m : List ℕ) → among x (l ++ m) ≡ true → (among x l ≡ true) ⊎ (among x m ≡ true)
among_append x [] m h = inr h
among_append x (y ∷ l) m h =
    ⊎_elim (λ (e : x ≡ y). inl (among_first x y l e))
    (λ (k : among x (l ++ m) ≡ true). ⊎_elim (λ (a : among x l ≡ true). inl (among_later x y l a)) (λ (a : among x m ≡ true). inr a) (among_append x l m k))
    (among_cases x y (l ++ m) h)

-- what stands at a place is among the list
pub among_at : (l : List ℕ) (i : ℕ) → i < length l → among (get_or l i 0) l ≡ true
among_at [] i h = absurd (not-suc-le-zero h)
among_at (y ∷ l) zero h = among_first y y l refl
among_at (y ∷ l) (suc i) h = among_later (get_or l i 0) y l (among_at l i (le_of_suc-le-suc h))

-- and only that
pub among_place : (x : ℕ) (l : List ℕ) → among x l ≡ true → (i : ℕ) × (i < length l) × (get_or l i 0 ≡ x)
among_place x [] h = absurd (among_none x h)
among_place x (y ∷ l) h =
    ⊎_elim (λ (e : x ≡ y). (0, suc-le-suc zero-le, sym e))
    (λ (k : among x l ≡ true). let p = among_place x l k in (suc p.0, suc-le-suc p.1, p.2))
    (among_cases x y l h)

-- ---- join

pub record Within (a b : List ℕ) : Type 0 where
  pub each : (x : ℕ) → among x a ≡ true → among x b ≡ true

pub within_trans : {a b c : List ℕ} → Within a b → Within b c → Within a c
within_trans p q = record { each = λ x h. q.each x (p.each x h) }

-- a property of both choices holds of what is picked
pub pick_ind : (P : List ℕ → Type 0) (t : Bool) (a b : List ℕ) → (t ≡ true → P a) → (t ≡ false → P b) → P (pick t a b)
pick_ind P true a b p q = p refl
pick_ind P false a b p q = q refl

pub join_keeps : (ts ids : List ℕ) → Within ids (join ts ids)
unfolding join
join_keeps [] ids = record { each = λ x h. h }
join_keeps (t ∷ ts) ids =
    pick_ind (Within ids) (among t ids) (join ts ids) (join ts (ids ++ (t ∷ []))) (λ _. join_keeps ts ids)
    (λ _. within_trans (record { each = λ x. among_left x ids (t ∷ []) }) (join_keeps ts (ids ++ (t ∷ []))))

pub join_has : (ts ids : List ℕ) → Within ts (join ts ids)
unfolding join
join_has [] ids = record { each = λ x h. absurd (among_none x h) }
join_has (t ∷ ts) ids =
    record {
      each = λ x h.
          pick_ind (λ (l : List ℕ). among x l ≡ true) (among t ids) (join ts ids) (join ts (ids ++ (t ∷ [])))
          (λ a. ⊎_elim (λ (e : x ≡ t). (join_keeps ts ids).each x (ap (λ (y : ℕ). among y ids) e ∙ a)) (λ (k : among x ts ≡ true). (join_has ts ids).each x k) (among_cases x t ts h))
          (λ _. ⊎_elim (λ (e : x ≡ t). (join_keeps ts (ids ++ (t ∷ []))).each x (among_right x ids (t ∷ []) (among_first x t [] e)))
          (λ (k : among x ts ≡ true). (join_has ts (ids ++ (t ∷ []))).each x k) (among_cases x t ts h));
    }

pub join_from : (x : ℕ) (ts ids : List ℕ) → among x (join ts ids) ≡ true → (among x ts ≡ true) ⊎ (among x ids ≡ true)
unfolding join
join_from x [] ids h = inr h
join_from x (t ∷ ts) ids h =
    ⊎_elim (λ (a : among t ids ≡ true). later ids (join_from x ts ids (rw a at h)))
    (λ (a : among t ids ≡ false).
    ⊎_elim (λ (k : among x ts ≡ true). inl (among_later x t ts k))
    (λ (k : among x (ids ++ (t ∷ [])) ≡ true).
    ⊎_elim (λ (b : among x ids ≡ true). inr b)
    (λ (b : among x (t ∷ []) ≡ true). ⊎_elim (λ (e : x ≡ t). inl (among_first x t ts e)) (λ (n : among x [] ≡ true). absurd (among_none x n)) (among_cases x t [] b))
    (among_append x ids (t ∷ []) k))
    (join_from x ts (ids ++ (t ∷ [])) (rw a at h)))
    (cases_Bool (among t ids))
  where
    later : (l : List ℕ) → (among x ts ≡ true) ⊎ (among x l ≡ true) → (among x (t ∷ ts) ≡ true) ⊎ (among x l ≡ true)
    later l (inl k) = inl (among_later x t ts k)
    later l (inr k) = inr k

pub join_same : (ts ids : List ℕ) → Within ts ids → join ts ids ≡ ids
unfolding join
join_same [] ids h = refl
join_same (t ∷ ts) ids h =
    rw (h.each t (among_first t t ts refl)) (join_same ts ids (record { each = λ x k. h.each x (among_later x t ts k) }))
