-- The marks that the terminators leave are the branch conditions of the definitions: what lowering is told is the same.
use mathlib.Core.Path.{◌≡◌, refl, sym, ap, ◌∙◌}
use mathlib.Core.Bool.{Bool, true, false}
use mathlib.Core.List.Memᴰ
use mathlib.Core.List.{List, [], ◌∷◌, Memᴰ}
use mathlib.Core.Logic.{⊎_elim}
use Prim.Native.Nat.{ℕ, zero, suc}
use native.Mathlib.Omega.{arith}
use borrow.Author.Tests.{eqb-true, eq-eqb}
use lib.Dec.{eqb}
use lib.ListN.{get_or, replicate}
use Rattle.wire.specs.Pick.{pick, both, either}
use Rattle.ir.specs.declared.Operand.{Operand}
use Rattle.ir.specs.declared.Operand.TheVariants.{Var, Immediate}
use Rattle.ir.specs.declared.Terminator.{Terminator}
use Rattle.ir.specs.declared.Terminator.TheVariants.{Return, Jump, Branch}
use Rattle.unitfile.specs.Unit.{BasicBlock}
use Rattle.frame.specs.Cell.{frame_of}
use Rattle.frame.specs.Hint.{index_by}
use Rattle.frame.proofs.Hints.{index_by_lem, frame_by_lem}
use Rattle.flow.specs.Node.{among}
use Rattle.survey.specs.Collected.{collected, all}
use Rattle.survey.specs.Conditions.{is_var, branches_on, is_condition}
use Rattle.survey.proofs.Among.{condition_among}
use Rattle.survey.proofs.Sorted.{all_fits}
use Rattle.layout.specs.Layout.{Context}
use Rattle.jumps.specs.Landed.{marked}
use Rattle.passes.specs.Inner.{condition_from, condition_at, context_of}
use Rattle.passes.specs.Notes.{Noted}
use Rattle.passes.proofs.Marks.{both_false, condition_at_lem}

-- ---- a condition is a variable of the unit

on_operand_lem : (o : Operand) (v : ℕ) → is_var o v ≡ true → o ≡ Var v
unfolding is_var
on_operand_lem (Var w) v e = ap Var (eqb-true w v e)
on_operand_lem (Immediate z) v e = let y : ◌≡◌ {A = ℕ} 0 1 = cc in absurd (omega arith)

record Branches (t : Terminator) (v : ℕ) : Type 0 where
  to : ℕ
  other : ℕ
  is : t ≡ Branch (Var v) to other

on_terminator : (t : Terminator) (v : ℕ) → branches_on t v ≡ true → Branches t v
unfolding branches_on
on_terminator (Return o) v e = let y : ◌≡◌ {A = ℕ} 0 1 = cc in absurd (omega arith)
on_terminator (Jump target) v e = let y : ◌≡◌ {A = ℕ} 0 1 = cc in absurd (omega arith)
on_terminator (Branch o to other) v e = record { to = to; other = other; is = ap (λ (x : Operand). Branch x to other) (on_operand_lem o v e) }

record Condition (bs : List BasicBlock) (v : ℕ) : Type 0 where
  block : BasicBlock
  member : Memᴰ block bs
  branches : Branches block.terminator v

condition_by : (b : BasicBlock) (bs : List BasicBlock) (v : ℕ) (t : Bool) → branches_on b.terminator v ≡ t → (is_condition bs v ≡ true → Condition bs v) → either t (is_condition bs v) ≡ true → Condition (b ∷ bs) v
condition_by b bs v true h ih e = record { block = b; member = Memᴰ.head refl; branches = on_terminator b.terminator v h }
condition_by b bs v false h ih e = let n = ih e in record { block = n.block; member = Memᴰ.tail n.member; branches = n.branches }

condition_of : (bs : List BasicBlock) (v : ℕ) → is_condition bs v ≡ true → Condition bs v
unfolding is_condition
condition_of [] v e = let y : ◌≡◌ {A = ℕ} 0 1 = cc in absurd (omega arith)
condition_of (b ∷ bs) v e = condition_by b bs v (branches_on b.terminator v) refl (condition_of bs v) e

either_right : (t : Bool) {u : Bool} → u ≡ true → either t u ≡ true
either_right true e = refl
either_right false e = e

among_member : (v : ℕ) (vs : List ℕ) → Memᴰ v vs → among v vs ≡ true
unfolding among
among_member v [] m = absurd (Memᴰ.not-nil m)
among_member v (x ∷ vs) m =
    ⊎_elim
    (λ (e : v ≡ x). ap (λ (t : Bool). either t (among v vs)) (eq-eqb v x e))
    (λ (n : Memᴰ v vs). either_right (eqb v x) (among_member v vs n))
    (Memᴰ.cases_cons m)

-- ---- no mark at first

all_zero_lem : (n i : ℕ) → ◌≡◌ {A = ℕ} (get_or (replicate n 0) i 0) 0
all_zero_lem zero i = refl
all_zero_lem (suc n) zero = refl
all_zero_lem (suc n) (suc i) = all_zero_lem n i

no_condition : (t : Bool) {a b : Bool} → a ≡ false → b ≡ false → pick t a b ≡ false
no_condition true p q = p
no_condition false p q = q

unmarked : (n i : ℕ) (vs : List ℕ) (v : ℕ) → condition_from i vs (replicate n 0) v ≡ false
unfolding condition_from marked
unmarked n i [] v = refl
unmarked n i (x ∷ vs) v = no_condition (eqb v x) (ap (λ (y : ℕ). eqb y 1) (all_zero_lem n i)) (unmarked n (suc i) vs v)

-- ---- together

module _ (bs : List BasicBlock) (vs : List ℕ) (e : collected bs ≡ all vs) where
  only_among : (v : ℕ) (t : Bool) → is_condition bs v ≡ t → both (among v vs) t ≡ t
  only_among v true h =
      let n = condition_of bs v h in
      ap (λ (t : Bool). both t true) (among_member v vs (condition_among bs vs e n.block n.member v n.branches.to n.branches.other n.branches.is))
  only_among v false h = both_false (among v vs)

  module _ (n : ℕ) {cs ts ms' cs' ts' : List ℕ} (k : Noted bs vs (replicate n 0) cs ts ms' cs' ts') where
    condition_is : (v : ℕ) → condition_from 0 vs ms' v ≡ is_condition bs v
    condition_is v =
        k.marks v
        ∙ ap (λ (t : Bool). either t (both (among v vs) (is_condition bs v))) (unmarked n 0 vs v)
        ∙ only_among v (is_condition bs v) refl

    condition_guessed : (hs : List ℕ) (v : ℕ) → condition_at vs ms' (index_by vs hs v) ≡ is_condition bs v
    condition_guessed hs v =
        ap (λ (f : ℕ → ℕ). condition_at vs ms' (f v)) (index_by_lem vs hs (all_fits bs vs e).sorted)
        ∙ sym (condition_at_lem vs ms' v)
        ∙ condition_is v

    -- what lowering is told
    pub context_is : (hs : List ℕ) → ◌≡◌ {A = Context} (context_of vs hs ms') (record { frame = frame_of vs; condition = is_condition bs })
    context_is hs = λ i. record { frame = frame_by_lem vs hs (all_fits bs vs e).sorted i; condition = λ v. condition_guessed hs v i }
