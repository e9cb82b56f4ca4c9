-- The relocations against the wide instructions from a start on.
use mathlib.Core.Path.{◌≡◌, refl, sym, ap, ◌∙◌}
use mathlib.Core.Bool.{Bool, true, false}
use mathlib.Core.List.{List, ◌∷◌}
use Prim.Native.Nat.{ℕ, suc, ◌+◌, ◌-◌, ◌<◌, ◌≤◌}
use native.Mathlib.Numerals.{add-one}
use native.Mathlib.Omega.{arith}
use lib.Dec.{eqb, leb}
use lib.ListN.{length, get_or, drop, drop_of_length-le}
use lib.Seq.{drop-cons}
use borrow.Author.Tests.{leb-true, leb-false}
use Rattle.wire.specs.Pick.{pick}
use Rattle.wire.specs.Number.{bytes_before}
use Rattle.shape.specs.Code.{slots, wide, start}
use Rattle.shape.specs.Set.{after}
use Rattle.shape.specs.Pair.{pair_at}
use Rattle.shape.specs.Relocations.{wide_from, wide_offsets, differs, relocations}
use Rattle.shape.proofs.Starts.{start_first, start_narrow, start_wide}
use Rattle.shape.proofs.Passes.{wides_end, wides_start}
use Rattle.std.specs.Prelude.{Err, Ok, Result, ⊤}

-- a pair that differs, or the rest
abbrev or_differs : Result ⊤ ℕ → Result ⊤ ℕ → Result ⊤ ℕ
or_differs (Ok _) rest = rest
or_differs (Err k) rest = Err k

-- the list from k on against one offset and the rest
one_pair : (l : List ℕ) (k s : ℕ) (os : List ℕ) → differs k (bytes_before s ∷ os) (drop k l) ≡ or_differs (pair_at l k s) (differs (k + 2) os (drop (k + 2) l))
unfolding differs pair_at
one_pair l k s os = go (leb (length l) k) refl (leb (length l) (suc k)) refl (eqb (get_or l k 0) (bytes_before s)) refl
  where
    go : (x : Bool) → leb (length l) k ≡ x → (y : Bool) → leb (length l) (suc k) ≡ y → (t : Bool) → eqb (get_or l k 0) (bytes_before s) ≡ t
        → differs k (bytes_before s ∷ os) (drop k l) ≡ or_differs (pick x (Err k) (pick t (pick y (Err (suc k)) (Ok tt)) (Err k))) (differs (k + 2) os (drop (k + 2) l))
    go true x y f t g = rw (drop_of_length-le l {i = k} (leb-true _ _ x))
    go false x true f t g =
        rw (drop-cons l k 0 (leb-false _ _ x), drop_of_length-le l {i = suc k} (leb-true _ _ f), g) (one t)
      where
        one : (t : Bool) → pick t (Err (suc k)) (Err k) ≡ or_differs (pick t (Err (suc k)) (Err k)) (differs (k + 2) os (drop (k + 2) l))
        one true = refl
        one false = refl
    go false x false f t g =
        let e : k + 2 ≡ suc (suc k) = omega arith in
        rw (drop-cons l k 0 (leb-false _ _ x), drop-cons l (suc k) 0 (leb-false _ _ f), g, e) (two t)
      where
        two : (t : Bool) → pick t (differs (suc (suc k)) os (drop (suc (suc k)) l)) (Err k) ≡ or_differs (pick t (Ok tt) (Err k)) (differs (suc (suc k)) os (drop (suc (suc k)) l))
        two true = refl
        two false = refl

-- where the pair is exact, two numbers were there
pub pair_exact : (l : List ℕ) (k s : ℕ) → pair_at l k s ≡ Ok tt → k + 2 ≤ length l
unfolding pair_at
pair_exact l k s e = go (leb (length l) k) refl (leb (length l) (suc k)) refl (eqb (get_or l k 0) (bytes_before s)) e
  where
    never : (j : ℕ) → ◌≡◌ {A = Result ⊤ ℕ} (Err j) (Ok tt) → ⊥
    never j p = let z : ◌≡◌ {A = ℕ} 0 1 = cc in omega arith

    go : (x : Bool) → leb (length l) k ≡ x → (y : Bool) → leb (length l) (suc k) ≡ y → (t : Bool)
        → pick {A = Result ⊤ ℕ} x (Err k) (pick t (pick y (Err (suc k)) (Ok tt)) (Err k)) ≡ Ok tt → k + 2 ≤ length l
    go true x y f t p = absurd (never k p)
    go false x true f true p = absurd (never (suc k) p)
    go false x true f false p = absurd (never k p)
    go false x false f t p = omega (arith, leb-false (length l) (suc k) f)

-- what is left at the start s and the index k
pub record Left (b l : List ℕ) (s k : ℕ) : Type 0 where
  pub here : start b s ≡ true
  pub most : k ≤ length l
  pub rest : differs k (wide_from b s (slots b - s)) (drop k l) ≡ relocations b l

pub left_all : (b l : List ℕ) → Left b l 0 0
unfolding relocations wide_offsets
left_all b l = let e : slots b - 0 ≡ slots b = omega arith in record { here = start_first b; most = omega arith; rest = rw e }

module _ (b l : List ℕ) (s k : ℕ) (L : Left b l s k) where
  wide_here : s < slots b → wide b s ≡ true → relocations b l ≡ or_differs (pair_at l k s) (differs (k + 2) (wide_from b (s + 2) (slots b - (s + 2))) (drop (k + 2) l))
  unfolding after
  wide_here h e =
      sym L.rest ∙ ap (λ (os : List ℕ). differs k os (drop k l)) (wides_start b (slots b) s h L.here ∙ rw e)
      ∙ one_pair l k s (wide_from b (s + 2) (slots b - (s + 2)))

  pub left_narrow : s < slots b → wide b s ≡ false → Left b l (s + 1) k
  unfolding after
  left_narrow h e =
      record {
        here = rw add-one (start_narrow b s L.here e);
        most = L.most;
        rest = sym (ap (λ (os : List ℕ). differs k os (drop k l)) (wides_start b (slots b) s h L.here ∙ rw e)) ∙ L.rest;
      }

  pub left_wide : s < slots b → wide b s ≡ true → pair_at l k s ≡ Ok tt → Left b l (s + 2) (k + 2)
  left_wide h e p =
      let q : s + 2 ≡ suc (suc s) = omega arith in
      record { here = rw q (start_wide b s L.here e); most = pair_exact l k s p; rest = sym (wide_here h e ∙ rw p) }

  pub left_differs : (j : ℕ) → s < slots b → wide b s ≡ true → pair_at l k s ≡ Err j → Err j ≡ relocations b l
  left_differs j h e p = sym (wide_here h e ∙ rw p)

  -- at the end of the code
  pub left_end : slots b ≤ s → length l ≤ k → Ok tt ≡ relocations b l
  unfolding differs
  left_end h e = rw (wides_end b (slots b) s h, drop_of_length-le l {i = k} e) at L.rest

  pub left_over : slots b ≤ s → k < length l → Err k ≡ relocations b l
  unfolding differs
  left_over h e = rw (wides_end b (slots b) s h, drop-cons l k 0 e) at L.rest
