-- The fronts of the lent lists after a survey.
use mathlib.Core.Path.{◌≡◌, ap, ◌∙◌}
use mathlib.Core.List.{List}
use Prim.Native.Nat.{ℕ, ◌+◌, ◌≤◌}
use native.Mathlib.Omega.{arith}
use lib.ListN.{length, take, drop}
use lib.Seq.{sets, sets-eq, take_at}
use Rattle.unitfile.specs.Unit.{parse}
use Rattle.unitfile.specs.declared.Found.{Found}
use Rattle.survey.specs.Surveyed.{ids, endings, blocks_of, variables_of, surveyed_variables, surveyed_ids, surveyed_endings}
use Rattle.survey.proofs.Answers.{IsUnit}
use Rattle.survey.proofs.Flat.{ids_count, endings_count}
use Rattle.survey.proofs.Sorted.{all_fits}

front : (l xs : List ℕ) (n : ℕ) → length xs ≡ n → n ≤ length l → take n (sets l 0 xs) ≡ xs
front l xs n e h = ap (take n) (sets-eq xs l 0 (omega arith)) ∙ take_at xs (drop (0 + length xs) l) n e

module _ (b l : List ℕ) where
  pub front_variables : {found : Found} {n : ℕ} (u : IsUnit b found n) → length l ≡ 56 → take n (surveyed_variables b l) ≡ u.variables
  unfolding surveyed_variables variables_of
  front_variables {found} {n} u size = rw u.collects (front l u.variables n u.count (omega (arith, u.count, size, (all_fits _ _ u.collects).few)))

  pub front_ids : length (blocks_of (parse b)) ≤ length l → take (length (blocks_of (parse b))) (surveyed_ids b l) ≡ ids (blocks_of (parse b))
  unfolding surveyed_ids
  front_ids = front l (ids (blocks_of (parse b))) _ (ids_count (blocks_of (parse b)))

  pub front_endings : length (blocks_of (parse b)) ≤ length l → take (length (blocks_of (parse b))) (surveyed_endings b l) ≡ endings (blocks_of (parse b))
  unfolding surveyed_endings
  front_endings = front l (endings (blocks_of (parse b))) _ (endings_count (blocks_of (parse b)))
