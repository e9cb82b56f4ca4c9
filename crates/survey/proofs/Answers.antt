-- What each answer of the survey means, and what a refused unit leaves as it was.
use mathlib.Core.Path.{◌≡◌, refl, ap, ◌∙◌}
use mathlib.Core.List.{List}
use Prim.Native.Nat.{ℕ}
use native.Mathlib.Omega.{arith}
use lib.ListN.{length}
use Rattle.record.specs.declared.Fault.{Fault}
use Rattle.unitfile.specs.Unit.{parse, read_unit}
use Rattle.unitfile.specs.declared.Found.{Found}
use Rattle.unitfile.proofs.Whole.{refused_whole}
use Rattle.survey.specs.Occurrences.{occurrences}
use Rattle.survey.specs.Collected.{Collected, all, too_many, collect, collected}
use Rattle.survey.specs.Surveyed.{ids, endings, blocks_of, variables_of, counted, answered, surveyed, surveyed_variables, surveyed_ids, surveyed_endings}
use Rattle.std.specs.Prelude.{Err, Ok, Result}
use Rattle.survey.specs.declared.Fault.TheVariants.{Reading, TooMany}
use Rattle.wire.proofs.Pairs.{ok_parts}

module _ (b : List ℕ) where
  pub unit_answer : (found : Found) → read_unit b ≡ Ok found → counted found (collected (blocks_of (parse b))) ≡ surveyed b
  unfolding surveyed answered
  unit_answer found e = rw e

  module _ (f : Fault) (e : read_unit b ≡ Err f) where
    pub refused_answer : Err (Reading f) ≡ surveyed b
    unfolding surveyed answered
    refused_answer = rw e

    pub refused_variables : (l : List ℕ) → l ≡ surveyed_variables b l
    unfolding surveyed_variables variables_of collected collect occurrences blocks_of
    refused_variables l = rw (refused_whole b f e)

    pub refused_ids : (l : List ℕ) → l ≡ surveyed_ids b l
    unfolding surveyed_ids ids blocks_of
    refused_ids l = rw (refused_whole b f e)

    pub refused_endings : (l : List ℕ) → l ≡ surveyed_endings b l
    unfolding surveyed_endings endings blocks_of
    refused_endings l = rw (refused_whole b f e)

-- ---- the other way round

pub record IsUnit (b : List ℕ) (found : Found) (n : ℕ) : Type 0 where
  pub read : read_unit b ≡ Ok found
  pub variables : List ℕ
  pub collects : collected (blocks_of (parse b)) ≡ all variables
  pub count : length variables ≡ n

pub record IsTooMany (b : List ℕ) (place : ℕ) : Type 0 where
  pub found : Found
  pub read : read_unit b ≡ Ok found
  pub variables : List ℕ
  pub collects : collected (blocks_of (parse b)) ≡ too_many place variables

module _ (b : List ℕ) where
  unit_by : (x : Result Found Fault) (c : Collected) → read_unit b ≡ x → collected (blocks_of (parse b)) ≡ c → (found : Found) (n : ℕ) → answered x c ≡ Ok (found, n) → IsUnit b found n
  unfolding answered counted
  unit_by (Ok g) (all vs) r k found n e =
      let p : g ≡ found = (ok_parts e).0 in
      let q : length vs ≡ n = (ok_parts e).1 in
      record { read = r ∙ ap Ok p; variables = vs; collects = k; count = q }
  unit_by (Ok g) (too_many place vs) r k found n e = let z : ◌≡◌ {A = ℕ} 0 1 = cc in absurd (omega arith)
  unit_by (Err f) c r k found n e = let z : ◌≡◌ {A = ℕ} 0 1 = cc in absurd (omega arith)

  pub unit_means : (found : Found) (n : ℕ) → surveyed b ≡ Ok (found, n) → IsUnit b found n
  unfolding surveyed
  unit_means = unit_by (read_unit b) (collected (blocks_of (parse b))) refl refl

  many_by : (x : Result Found Fault) (c : Collected) → read_unit b ≡ x → collected (blocks_of (parse b)) ≡ c → (place : ℕ) → answered x c ≡ Err (TooMany place) → IsTooMany b place
  unfolding answered counted
  many_by (Ok g) (all vs) r k place e = let z : ◌≡◌ {A = ℕ} 0 1 = cc in absurd (omega arith)
  many_by (Ok g) (too_many at vs) r k place e =
      let p : at ≡ place = cc in
      record { found = g; read = r; variables = vs; collects = k ∙ ap (λ (x : ℕ). too_many x vs) p }
  many_by (Err f) c r k place e = let z : ◌≡◌ {A = ℕ} 0 1 = cc in absurd (omega arith)

  pub too_many_means : (place : ℕ) → surveyed b ≡ Err (TooMany place) → IsTooMany b place
  unfolding surveyed
  too_many_means = many_by (read_unit b) (collected (blocks_of (parse b))) refl refl

  refused_by : (x : Result Found Fault) (c : Collected) → read_unit b ≡ x → (f : Fault) → answered x c ≡ Err (Reading f) → read_unit b ≡ Err f
  unfolding answered counted
  refused_by (Ok g) (all vs) r f e = let z : ◌≡◌ {A = ℕ} 0 1 = cc in absurd (omega arith)
  refused_by (Ok g) (too_many at vs) r f e = let z : ◌≡◌ {A = ℕ} 0 1 = cc in absurd (omega arith)
  refused_by (Err g) c r f e =
      let p : g ≡ f = cc in
      r ∙ ap Err p

  pub refused_means : (f : Fault) → surveyed b ≡ Err (Reading f) → read_unit b ≡ Err f
  unfolding surveyed
  refused_means = refused_by (read_unit b) (collected (blocks_of (parse b))) refl
