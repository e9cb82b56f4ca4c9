-- When the analysis runs, and the whole table from its front.
use mathlib.Core.Path.{◌≡◌, refl, sym, ◌∙◌, subst}
use mathlib.Core.List.{List, ◌++◌}
use Prim.Native.Nat.{ℕ, ◌/◌, ◌≤◌, ◌<◌}
use native.Mathlib.Omega.{arith}
use lib.ListN.{length, drop, length-append, length-drop, get_or-append}
use lib.Seq.{drop_at}
use borrow.Author.Tests.{lt-ltb, le-ltb, le-leb, lt-leb}
use Rattle.shape.specs.Code.{slots}
use Rattle.paths.specs.Readable.{Readable, Filled, fits, Analysed}
use Rattle.paths.specs.Work.{Solved}
use Rattle.paths.specs.declared.Ends.{Ends}
use Rattle.paths.specs.declared.Ends.TheVariants as E

module _ (b t : List ℕ) where
  pub no_slot : length b / 8 ≡ 0 → Analysed b t t E.NotRun
  unfolding fits slots
  no_slot e = simp (le-ltb 0 (length b / 8) (omega arith)) (refl, refl)

  pub too_many_lem : 131072 < length b / 8 → Analysed b t t E.NotRun
  unfolding fits slots
  too_many_lem h = simp (lt-ltb 0 (length b / 8) (omega arith), lt-leb (length b / 8) 131072 h) (refl, refl)

  pub too_short : 0 < length b / 8 → length b / 8 ≤ 131072 → length t < length b / 8 → Analysed b t t E.NotRun
  unfolding fits slots
  too_short p h l = simp (lt-ltb 0 (length b / 8) p, le-leb (length b / 8) 131072 h, lt-leb (length b / 8) (length t) l) (refl, refl)

  filled : (n : ℕ) (u : List ℕ) (e : Ends) → n ≡ slots b → n ≤ length t → Solved b u e → Filled b t (u ++ drop n t)
  filled n u e q l S =
      let k : length u ≡ n = S.size ∙ sym q in
      record {
        same_length = length-append u (drop n t) ∙ omega (arith, length-drop n t);
        front = λ s ls. subst (λ (x : ℕ). Readable b s x) (sym (get_or-append u (drop n t) 0 s (omega (arith, S.size)))) (S.front s ls);
        rest = subst (λ (m : ℕ). drop m (u ++ drop n t) ≡ drop m t) q (drop_at u (drop n t) n k);
      }

  pub ran : (n : ℕ) (u : List ℕ) (e : Ends) → n ≡ length b / 8 → 0 < n → n ≤ 131072 → n ≤ length t → Solved b u e → Analysed b t (u ++ drop n t) e
  unfolding fits slots
  ran n u e q p h l S =
      simp (lt-ltb 0 (length b / 8) (omega arith), le-leb (length b / 8) 131072 (omega arith), le-leb (length b / 8) (length t) (omega arith)) (filled n u e q l S, S.told)
