-- What is left to note at a block: with the terminators that are still to come it ends as the definitions say.
use mathlib.Core.Path.{◌≡◌, refl, sym, ap, ◌∙◌}
use mathlib.Core.Bool.{Bool, true, false}
use mathlib.Core.List.{List, [], ◌∷◌}
use Prim.Native.Nat.{ℕ, suc, ◌+◌, ◌*◌, ◌-◌, ◌<◌, ◌≤◌}
use native.Mathlib.Nat.{sub-zero}
use native.Mathlib.Numerals.{add-one}
use native.Mathlib.Omega.{arith}
use lib.Dec.{ltb}
use lib.ListN.{length, get_or, length-set}
use lib.Seq.{sets, length-sets}
use Rattle.wire.specs.Pick.{pick, both, either}
use Rattle.ir.specs.declared.Operand.{Operand}
use Rattle.ir.specs.declared.Operand.TheVariants.{Var, Immediate}
use Rattle.ir.specs.declared.Terminator.{Terminator}
use Rattle.ir.specs.declared.Terminator.TheVariants.{Return, Jump, Branch}
use Rattle.recordparts.specs.Terminator.{terminator_in}
use Rattle.unitfile.specs.Unit.{BasicBlock}
use Rattle.frame.specs.Hint.{index_by}
use Rattle.frame.proofs.Hints.{index_by_lem}
use Rattle.flow.specs.Node.{among}
use Rattle.survey.specs.Conditions.{is_var, branches_on, is_condition}
use Rattle.survey.specs.Collected.{Fits}
use Rattle.passes.specs.Inner.{condition_from, mark_at}
use Rattle.passes.specs.Notes.{marks_on, marks_after, count_of, first_target, second_target, counts_of, pairs_of, closings_at, marks_through, counts_through, pairs_through, Notes, Noted}
use Rattle.passes.proofs.Marks.{either_false, both_false, mark_at_lem, mark_more}
use Rattle.passes.proofs.Closings.{closings}

-- ---- what all terminators tell

unfoldable branching : List Terminator → ℕ → Bool
branching [] v = false
branching (t ∷ ts) v = either (branches_on t v) (branching ts v)

counts_are : (bs : List BasicBlock) → counts_through (closings bs) ≡ counts_of bs
unfolding closings counts_through counts_of
counts_are [] = refl
counts_are (b ∷ bs) = ap (λ (l : List ℕ). count_of b.terminator ∷ l) (counts_are bs)

pairs_are : (bs : List BasicBlock) → pairs_through (closings bs) ≡ pairs_of bs
unfolding closings pairs_through pairs_of
pairs_are [] = refl
pairs_are (b ∷ bs) = ap (λ (l : List ℕ). first_target b.terminator ∷ second_target b.terminator ∷ l) (pairs_are bs)

conditions_are : (bs : List BasicBlock) (v : ℕ) → branching (closings bs) v ≡ is_condition bs v
unfolding closings branching is_condition
conditions_are [] v = refl
conditions_are (b ∷ bs) v = ap (either (branches_on b.terminator v)) (conditions_are bs v)

no_mark : (c a : Bool) → c ≡ either c (both a false)
no_mark c a = either_false c ∙ ap (either c) (sym (both_false a))

regroup : (c a x y : Bool) → either (either c (both a x)) (both a y) ≡ either c (both a (either x y))
regroup true a x y = refl
regroup false true x y = refl
regroup false false x y = refl

module _ (vs hs : List ℕ) (fits : Fits vs) (v : ℕ) where
  on_marks : (ms : List ℕ) → length ms ≡ 56 → (o : Operand) → condition_from 0 vs (marks_on vs hs ms o) v ≡ either (condition_from 0 vs ms v) (both (among v vs) (is_var o v))
  unfolding marks_on is_var
  on_marks ms size (Var w) =
      ap (λ (f : ℕ → ℕ). condition_from 0 vs (mark_at vs ms (f w)) v) (index_by_lem vs hs fits.sorted)
      ∙ ap (λ (l : List ℕ). condition_from 0 vs l v) (sym (mark_at_lem vs ms w))
      ∙ mark_more 0 vs ms w v (omega (arith, fits.few))
  on_marks ms size (Immediate z) = no_mark (condition_from 0 vs ms v) (among v vs)

  terminator_marks : (ms : List ℕ) → length ms ≡ 56 → (t : Terminator) → condition_from 0 vs (marks_after vs hs ms t) v ≡ either (condition_from 0 vs ms v) (both (among v vs) (branches_on t v))
  unfolding marks_after branches_on
  terminator_marks ms size (Return o) = no_mark (condition_from 0 vs ms v) (among v vs)
  terminator_marks ms size (Jump target) = no_mark (condition_from 0 vs ms v) (among v vs)
  terminator_marks ms size (Branch o to other) = on_marks ms size o

length_pick : (t : Bool) (a b : List ℕ) {n : ℕ} → length a ≡ n → length b ≡ n → length (pick t a b) ≡ n
length_pick true a b p q = p
length_pick false a b p q = q

module _ (vs hs : List ℕ) where
  mark_length : (ms : List ℕ) (t : Terminator) → length (marks_after vs hs ms t) ≡ length ms
  unfolding marks_after marks_on mark_at
  mark_length ms (Return o) = refl
  mark_length ms (Jump target) = refl
  mark_length ms (Branch (Var w) to other) = length_pick (ltb (index_by vs hs w) (length vs)) _ _ (length-set ms (index_by vs hs w) 1) refl
  mark_length ms (Branch (Immediate z) to other) = refl

  module _ (fits : Fits vs) (v : ℕ) where
    through_marks : (ms : List ℕ) → length ms ≡ 56 → (l : List Terminator) → condition_from 0 vs (marks_through vs hs ms l) v ≡ either (condition_from 0 vs ms v) (both (among v vs) (branching l v))
    unfolding marks_through branching
    through_marks ms size [] = no_mark (condition_from 0 vs ms v) (among v vs)
    through_marks ms size (t ∷ l) =
        through_marks (marks_after vs hs ms t) (mark_length ms t ∙ size) l
        ∙ ap (λ (x : Bool). either x (both (among v vs) (branching l v))) (terminator_marks vs hs fits v ms size t)
        ∙ regroup (condition_from 0 vs ms v) (among v vs) (branches_on t v) (branching l v)

-- noting changes no list's length
pub note_lengths : {vs hs ms cs ts ms' cs' ts' : List ℕ} {k : ℕ} {t : Terminator} → Notes vs hs k t ms cs ts ms' cs' ts' → (length cs' ≡ length cs) × (length ts' ≡ length ts)
note_lengths {cs = cs} {ts} {k = k} {t} n = (ap length n.counts ∙ length-sets cs k (count_of t ∷ []), ap length n.targets ∙ length-sets ts (2 * k) (first_target t ∷ second_target t ∷ []))

pub noted_counts : {bs : List BasicBlock} {vs ms cs ts ms' cs' ts' : List ℕ} → Noted bs vs ms cs ts ms' cs' ts' → length cs' ≡ length cs
noted_counts {bs} {cs = cs} n = ap length n.counts ∙ length-sets cs 0 (counts_of bs)

-- ---- at block k of n, with the lists ms, cs and ts, which were ms₀, cs₀ and ts₀ at first

-- the terminators that are still to come
abbrev left : List ℕ → List ℕ → ℕ → ℕ → List Terminator
left b es n k = closings_at b es k (n - k)

pub record Noting (b es vs hs ms₀ cs₀ ts₀ ms cs ts : List ℕ) (n k : ℕ) : Type 0 where
  pub most : k ≤ n
  pub marks : marks_through vs hs ms (left b es n k) ≡ marks_through vs hs ms₀ (closings_at b es 0 n)
  pub counts : sets cs k (counts_through (left b es n k)) ≡ sets cs₀ 0 (counts_through (closings_at b es 0 n))
  pub targets : sets ts (2 * k) (pairs_through (left b es n k)) ≡ sets ts₀ 0 (pairs_through (closings_at b es 0 n))

pub start : (b es vs hs ms cs ts : List ℕ) (n : ℕ) → Noting b es vs hs ms cs ts ms cs ts n 0
start b es vs hs ms cs ts n = record { most = omega arith; marks = rw sub-zero; counts = rw sub-zero; targets = rw sub-zero }

module _ {b es vs hs ms₀ cs₀ ts₀ ms cs ts : List ℕ} {n k : ℕ} (g : Noting b es vs hs ms₀ cs₀ ts₀ ms cs ts n k) where
  abbrev here : Terminator
  here = terminator_in b (get_or es k 0 + 4)

  left_step : k < n → left b es n k ≡ here ∷ left b es n (k + 1)
  unfolding closings_at
  left_step h = let z : n - k ≡ suc (n - (k + 1)) = omega arith in rw (z, add-one)

  pub on_block : {ms' cs' ts' : List ℕ} → k < n → Notes vs hs k here ms cs ts ms' cs' ts' → Noting b es vs hs ms₀ cs₀ ts₀ ms' cs' ts' n (k + 1)
  unfolding marks_through counts_through pairs_through
  on_block h q =
      let s = left_step h in
      let z : 2 * (k + 1) ≡ suc (suc (2 * k)) = omega arith in
      record {
        most = omega arith;
        marks = rw q.marks (ap (marks_through vs hs ms) (sym s) ∙ g.marks);
        counts = rw q.counts (ap (λ (i : ℕ). sets (sets cs k (count_of here ∷ [])) i (counts_through (left b es n (k + 1)))) (add-one k) ∙ ap (λ (l : List Terminator). sets cs k (counts_through l)) (sym s) ∙ g.counts);
        targets = rw (q.targets, z) (ap (λ (l : List Terminator). sets ts (2 * k) (pairs_through l)) (sym s) ∙ g.targets);
      }

  pub at_end : {bs : List BasicBlock} → n ≤ k → closings_at b es 0 n ≡ closings bs → Fits vs → length ms₀ ≡ 56 → Noted bs vs ms₀ cs₀ ts₀ ms cs ts
  unfolding closings_at marks_through counts_through pairs_through
  at_end {bs} h are fits size =
      let z : n - k ≡ 0 = omega arith in
      let none : left b es n k ≡ [] = rw z in
      let marked = ap (marks_through vs hs ms) (sym none) ∙ g.marks ∙ ap (marks_through vs hs ms₀) are in
      record {
        marks = λ v.
            ap (λ (x : List ℕ). condition_from 0 vs x v) marked
            ∙ through_marks vs hs fits v ms₀ size (closings bs)
            ∙ ap (λ (t : Bool). either (condition_from 0 vs ms₀ v) (both (among v vs) t)) (conditions_are bs v);
        counts = ap (λ (l : List Terminator). sets cs k (counts_through l)) (sym none) ∙ g.counts ∙ ap (sets cs₀ 0) (ap counts_through are ∙ counts_are bs);
        targets = ap (λ (l : List Terminator). sets ts (2 * k) (pairs_through l)) (sym none) ∙ g.targets ∙ ap (sets ts₀ 0) (ap pairs_through are ∙ pairs_are bs);
      }
