-- The blocks that are kept by their numbers are those whose id is reached.
use mathlib.Core.Path.{◌≡◌, refl, ap, ◌∙◌}
use mathlib.Core.Bool.{Bool}
use mathlib.Core.List.{List, [], ◌∷◌}
use Prim.Native.Nat.{ℕ, suc, ◌+◌, ◌<◌}
use native.Mathlib.Omega.{arith}
use lib.ListN.{length, get_or}
use Rattle.unitfile.specs.Unit.{BasicBlock}
use Rattle.survey.specs.Surveyed.{ids}
use Rattle.layout.specs.Emitted.{keep}
use Rattle.layout.specs.Inner.{keep_by}

-- from number k on, e tells of each block whether its id is reached
pub record Agree (e reached : ℕ → Bool) (k : ℕ) (bs : List BasicBlock) : Type 0 where
  pub at : (i : ℕ) → i < length bs → e (k + i) ≡ reached (get_or (ids bs) i 0)

pub agree_first : {e reached : ℕ → Bool} {k : ℕ} {b : BasicBlock} {bs : List BasicBlock} → Agree e reached k (b ∷ bs) → e k ≡ reached b.id
unfolding ids
agree_first {e} {reached} {k} a = ap e (let z : k ≡ k + 0 = omega arith in z) ∙ a.at 0 (omega arith)

pub agree_rest : {e reached : ℕ → Bool} {k : ℕ} {b : BasicBlock} {bs : List BasicBlock} → Agree e reached k (b ∷ bs) → Agree e reached (suc k) bs
unfolding ids
agree_rest {e} {reached} {k} a = record { at = λ i l. ap e (let z : suc k + i ≡ k + suc i = omega arith in z) ∙ a.at (suc i) (omega arith) }

pub keep_by_lem : (e reached : ℕ → Bool) (k : ℕ) (bs : List BasicBlock) → Agree e reached k bs → keep_by e k bs ≡ keep reached bs
unfolding keep_by keep
keep_by_lem e reached k [] a = refl
keep_by_lem e reached k (b ∷ bs) a = rw (keep_by_lem e reached (suc k) bs (agree_rest a), agree_first a)
