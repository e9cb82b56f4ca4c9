-- Only one verdict and one table meet the promise.
use mathlib.Core.Path.{◌≡◌, refl, sym, ◌∙◌}
use mathlib.Core.List.{List}
use Prim.Native.Nat.{ℕ, ◌<◌}
use native.Mathlib.Decide.{dec_lt}
use native.Mathlib.Omega.{arith}
use lib.ListN.{length}
use Rattle.paths.specs.Way.{Clear, Lacking}
use Rattle.paths.proofs.Unique.{not_both, one_table}
use Rattle.screen.specs.Verdict.{Before, fine, refused, before_paths, Judged, passed, unreadable, past, ScreenedAfter, Screened}
use Rattle.screen.specs.declared.Fault.{Fault}
use Rattle.std.specs.Prelude.{Result, ⊤}

-- a slot at fault is not clear
pub at_fault : {b : List ℕ} {s r : ℕ} → Lacking b s r → Clear b s → ⊥
at_fault {b} {s} {r} L c = not_both b s r (c r L.read) L.lacks

-- the lowest number, where each of two excludes those below it
lowest : (m n : ℕ) → (m < n → ⊥) → (n < m → ⊥) → m ≡ n
lowest m n p q = go (dec_lt m n) (dec_lt n m)
  where
    go : Dec (m < n) → Dec (n < m) → m ≡ n
    go (yes l) h = absurd (p l)
    go (no k) (yes l) = absurd (q l)
    go (no k) (no h) = omega arith

one_register : (b : List ℕ) (s q r : ℕ) → Lacking b s q → Lacking b s r → q ≡ r
one_register b s q r L M =
    lowest q r (λ l. not_both b s q (M.lowest q l L.read) L.lacks) (λ l. not_both b s r (L.lowest r l M.read) M.lacks)

one_fault : (b : List ℕ) (s t q r : ℕ) → Lacking b s q → ((u : ℕ) → u < s → Clear b u) → Lacking b t r → ((u : ℕ) → u < t → Clear b u) → (s ≡ t) × (q ≡ r)
one_fault b s t q r L c M d =
    let e : s ≡ t = lowest s t (λ l. at_fault L (d s l)) (λ l. at_fault M (c t l)) in
    (e, one_register b t q r (rw e at L) M)

one_judged : (b : List ℕ) {v w : Result ⊤ Fault} → Judged b v → Judged b w → v ≡ w
one_judged b (passed c p) (passed d q) = refl
one_judged b (passed c p) (unreadable M d) = absurd (at_fault M (c _ M.inside))
one_judged b (passed c p) (past d q) = absurd (p q)
one_judged b (unreadable L c) (passed d q) = absurd (at_fault L (d _ L.inside))
one_judged b (unreadable L c) (unreadable M d) = let P = one_fault b _ _ _ _ L c M d in rw (P.0, P.1)
one_judged b (unreadable L c) (past d q) = absurd (at_fault L (d _ L.inside))
one_judged b (past c p) (passed d q) = absurd (q p)
one_judged b (past c p) (unreadable M d) = absurd (at_fault M (c _ M.inside))
one_judged b (past c p) (past d q) = refl

pub one_verdict : (b l t : List ℕ) (v w : Result ⊤ Fault) (u x : List ℕ) → Screened b l t v u → Screened b l t w x → (v ≡ w) × (u ≡ x)
one_verdict b l t v w u x p q = go (before_paths b l (length t)) p q
  where
    go : (before : Before) → ScreenedAfter before b t v u → ScreenedAfter before b t w x → (v ≡ w) × (u ≡ x)
    go fine p q = (one_judged b p.0 q.0, one_table b t u x p.1 q.1)
    go (refused f) p q = (p.0 ∙ sym q.0, p.1 ∙ sym q.1)
