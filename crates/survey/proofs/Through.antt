-- What is left of a block's instructions at a byte: with those that are still to come, what they name is taken.
use mathlib.Core.Path.{◌≡◌, refl, sym, ◌∙◌, subst}
use mathlib.Core.Bool.{Bool, true, false}
use mathlib.Core.List.{List, [], ◌++◌}
use Prim.Native.Nat.{ℕ, ◌+◌, ◌≤◌}
use native.Mathlib.Omega.{arith}
use borrow.Author.Tests.{leb-true, leb-false}
use lib.Dec.{leb}
use lib.ListN.{length}
use mir.Syntax.{w16}
use Rattle.wire.proofs.Le.{unsigned_out}
use Rattle.record.specs.Frame.{kind_at, next_at}
use Rattle.survey.specs.Occurrences.{Occurrence}
use Rattle.survey.specs.Inner.{Holds, Takes, of_instruction_in, Names, done, next, Over}
use Rattle.survey.specs.declared.occurrences.Tally.{Tally}
use Rattle.survey.proofs.Tallies.{nothing, then}

-- a kind that is not 0 stands in the bytes
inside_by : (b : List ℕ) (at : ℕ) (x : Bool) → leb (at + 2 + 2) (length b) ≡ x → kind_at b at ≡ 4 → at + 4 ≤ length b
inside_by b at true e k = omega (arith, leb-true (at + 2 + 2) (length b) e)
inside_by b at false e k = absurd (omega (arith, sym k ∙ unsigned_out w16 b (at + 2) (leb-false (at + 2 + 2) (length b) e)))

pub kind_inside : (b : List ℕ) (at : ℕ) → kind_at b at ≡ 4 → at + 4 ≤ length b
kind_inside b at = inside_by b at (leb (at + 2 + 2) (length b)) refl

-- ---- by the kind at a byte

record Others (b : List ℕ) (end at : ℕ) (os : List Occurrence) : Type 0 where
  others : List Occurrence
  are : os ≡ of_instruction_in b at ++ others
  names : Names b end (next_at b at) others

one_more_lem : {b : List ℕ} {end at : ℕ} {os : List Occurrence} → kind_at b at ≡ 4 → Names b end at os → Others b end at os
one_more_lem e (done h) = absurd (h e)
one_more_lem e (next {os = os} h n) = record { others = os; are = refl; names = n }

no_more : {b : List ℕ} {end at : ℕ} {os : List Occurrence} → (kind_at b at ≡ 4 → ⊥) → Names b end at os → (os ≡ []) × (at ≡ end)
no_more e (done h) = (refl, refl)
no_more e (next h n) = absurd (e h)

-- ---- what is left

-- at the byte at, in t and vs, of instructions that name os, in t₀ and vs₀ at first
pub record Rest (b : List ℕ) (end : ℕ) (os : List Occurrence) (t₀ : Tally) (vs₀ : List ℕ) (at : ℕ) (t : Tally) (vs : List ℕ) : Type 0 where
  pub rest : List Occurrence
  pub names : Names b end at rest
  pub takes : (r : Tally) (m : List ℕ) → Takes t vs rest r m → Takes t₀ vs₀ os r m

-- whatever the instructions from the byte first on name, and wherever they end
pub record Through (b : List ℕ) (first : ℕ) (t₀ : Tally) (vs₀ : List ℕ) (at : ℕ) (t : Tally) (vs : List ℕ) : Type 0 where
  pub holds : Holds t vs
  pub left : (end : ℕ) (os : List Occurrence) → Names b end first os → Rest b end os t₀ vs₀ at t vs

pub at_first : {b : List ℕ} {first : ℕ} {t : Tally} {vs : List ℕ} → Holds t vs → Through b first t vs first t vs
at_first h = record { holds = h; left = λ end os n. record { rest = os; names = n; takes = λ r m w. w } }

module _ {b : List ℕ} {first : ℕ} {t₀ : Tally} {vs₀ : List ℕ} {at : ℕ} {t : Tally} {vs : List ℕ} (k : Through b first t₀ vs₀ at t vs) where
  pub on_instruction : {to : ℕ} {r : Tally} {m : List ℕ} → kind_at b at ≡ 4 → to ≡ next_at b at → Takes t vs (of_instruction_in b at) r m → Through b first t₀ vs₀ to r m
  on_instruction {to} {r} {m} e p w =
      record {
        holds = w.holds;
        left = λ end os n.
            let q = k.left end os n in
            let o = one_more_lem e q.names in
            record {
              rest = o.others;
              names = subst (λ (i : ℕ). Names b end i o.others) (sym p) o.names;
              takes = λ s l u. q.takes s l (subst (λ (x : List Occurrence). Takes t vs x s l) (sym o.are) (then w u));
            };
      }

  pub at_end : (kind_at b at ≡ 4 → ⊥) → Over b first t₀ vs₀ (record { tally = t; at = at }) vs
  at_end e =
      record {
        takes = λ end os n.
            let q = k.left end os n in
            q.takes t vs (subst (λ (x : List Occurrence). Takes t vs x t vs) (sym (no_more e q.names).0) (nothing k.holds));
        ends = λ end os n. (no_more e (k.left end os n).names).1;
      }
