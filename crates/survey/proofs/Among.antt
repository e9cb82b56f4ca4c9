-- Where all variables were collected, each variable of each instruction and terminator is among them, and has a cell.
use mathlib.Core.Path.{◌≡◌, refl, sym, ap, ◌∙◌, subst}
use mathlib.Core.Logic.{⊎_elim}
use mathlib.Core.List.Memᴰ
use mathlib.Core.List.{List, [], ◌∷◌, ◌++◌, Memᴰ}
use Prim.Native.Nat.{ℕ, suc}
use native.Mathlib.Omega.{arith}
use borrow.Author.Tests.{eqb-true, eqb-false}
use lib.Dec.{eqb, leb, ltb}
use lib.IntN.{ℤ}
use lib.ListN.{length}
use Rattle.ir.specs.Operands.{list_of}
use Rattle.ir.specs.declared.Operand.{Operand}
use Rattle.ir.specs.declared.Operand.TheVariants as O
use Rattle.ir.specs.declared.Terminator.TheVariants as T
use Rattle.frame.specs.Cell.{offset_of, cell_from, frame_of}
use Rattle.frame.specs.Variables.{insert}
use Rattle.unitfile.specs.Unit.{PlacedInstruction, BasicBlock}
use Rattle.opening.proofs.Choice.{pick_ind}
use Rattle.survey.specs.Occurrences.{Occurrence, of_operand, of_operands, of_instruction, of_instructions, of_terminator, occurrences}
use Rattle.survey.specs.Collected.{Collected, all, too_many, collect, collected}
use Rattle.std.specs.Prelude.{None, Option, Some}

-- ---- every variable that occurs is collected

here : (v : ℕ) (l : List ℕ) → Memᴰ v (insert v l)
unfolding insert
here v [] = Memᴰ.head refl
here v (y ∷ ys) =
    pick_ind (Memᴰ v) (ltb v y) _ _
    (λ t. Memᴰ.head refl)
    (λ t. pick_ind (Memᴰ v) (eqb v y) _ _ (λ e. Memᴰ.head (eqb-true v y e)) (λ e. Memᴰ.tail (here v ys)))

still : (v x : ℕ) (l : List ℕ) → Memᴰ v l → Memᴰ v (insert x l)
unfolding insert
still v x [] m = Memᴰ.tail m
still v x (y ∷ ys) m =
    pick_ind (Memᴰ v) (ltb x y) _ _
    (λ t. Memᴰ.tail m)
    (λ t. pick_ind (Memᴰ v) (eqb x y) _ _ (λ e. m) (λ e. ⊎_elim (λ (q : v ≡ y). Memᴰ.head q) (λ (q : Memᴰ v ys). Memᴰ.tail (still v x ys q)) (Memᴰ.cases_cons m)))

-- a property of the variables, where all were collected
abbrev IfAll : (List ℕ → Type 0) → Collected → Type 0
IfAll P (all vs) = P vs
IfAll P (too_many place vs) = Unit {0}

collect_keeps : (v : ℕ) (vs : List ℕ) (os : List Occurrence) → Memᴰ v vs → IfAll (Memᴰ v) (collect vs os)
unfolding collect
collect_keeps v vs [] m = m
collect_keeps v vs (o ∷ os) m =
    pick_ind (IfAll (Memᴰ v)) (leb (length (insert o.variable vs)) 56) _ _
    (λ t. collect_keeps v (insert o.variable vs) os (still v o.variable vs m))
    (λ t. tt)

collect_has : (o : Occurrence) (vs : List ℕ) (os : List Occurrence) → Memᴰ o os → IfAll (Memᴰ o.variable) (collect vs os)
unfolding collect
collect_has o vs [] m = absurd (Memᴰ.not-nil m)
collect_has o vs (p ∷ os) m =
    pick_ind (IfAll (Memᴰ o.variable)) (leb (length (insert p.variable vs)) 56) _ _
    (λ t. ⊎_elim
    (λ (q : o ≡ p). collect_keeps o.variable (insert p.variable vs) os (Memᴰ.cast (ap (λ (x : Occurrence). x.variable) q) (here p.variable vs)))
    (λ (q : Memᴰ o os). collect_has o (insert p.variable vs) os q)
    (Memᴰ.cases_cons m))
    (λ t. tt)

-- ---- the variables of a block's instructions and of its terminator

at_operand : (place v : ℕ) → Memᴰ (record { place = place; variable = v }) (of_operand place (O.Var v))
unfolding of_operand
at_operand place v = Memᴰ.head refl

operand_occurs : (place v : ℕ) (l : List Operand) → Memᴰ (O.Var v) l → Memᴰ (record { place = place; variable = v }) (of_operands place l)
unfolding of_operands
operand_occurs place v [] m = absurd (Memᴰ.not-nil m)
operand_occurs place v (o ∷ os) m =
    ⊎_elim
    (λ (q : O.Var v ≡ o). Memᴰ.append_left (of_operands place os) (rw q at (at_operand place v)))
    (λ (q : Memᴰ (O.Var v) os). Memᴰ.append_right (of_operand place o) (operand_occurs place v os q))
    (Memᴰ.cases_cons m)

instruction_occurs : (o : Occurrence) (p : PlacedInstruction) (ps : List PlacedInstruction) → Memᴰ p ps → Memᴰ o (of_instruction p.place p.instruction) → Memᴰ o (of_instructions ps)
unfolding of_instructions
instruction_occurs o p [] m h = absurd (Memᴰ.not-nil m)
instruction_occurs o p (q ∷ qs) m h =
    ⊎_elim
    (λ (e : p ≡ q). Memᴰ.append_left (of_instructions qs) (subst (λ (x : PlacedInstruction). Memᴰ o (of_instruction x.place x.instruction)) e h))
    (λ (n : Memᴰ p qs). Memᴰ.append_right (of_instruction q.place q.instruction) (instruction_occurs o p qs n h))
    (Memᴰ.cases_cons m)

block_occurs : (o : Occurrence) (b : BasicBlock) (bs : List BasicBlock) → Memᴰ b bs → Memᴰ o (of_instructions b.instructions ++ of_terminator b.ending b.terminator) → Memᴰ o (occurrences bs)
unfolding occurrences
block_occurs o b [] m h = absurd (Memᴰ.not-nil m)
block_occurs o b (k ∷ ks) m h =
    ⊎_elim
    (λ (e : b ≡ k). Memᴰ.append_left (occurrences ks) (subst (λ (x : BasicBlock). Memᴰ o (of_instructions x.instructions ++ of_terminator x.ending x.terminator)) e h))
    (λ (n : Memᴰ b ks). Memᴰ.append_right (of_instructions k.instructions ++ of_terminator k.ending k.terminator) (block_occurs o b ks n h))
    (Memᴰ.cases_cons m)

module _ (bs : List BasicBlock) (vs : List ℕ) (e : collected bs ≡ all vs) where
  pub occurrence_among : (o : Occurrence) → Memᴰ o (occurrences bs) → Memᴰ o.variable vs
  unfolding collected
  occurrence_among o m = subst (IfAll (Memᴰ o.variable)) e (collect_has o [] (occurrences bs) m)

  module _ (b : BasicBlock) (m : Memᴰ b bs) where
    module _ (p : PlacedInstruction) (n : Memᴰ p b.instructions) where
      pub result_among : Memᴰ p.instruction.result vs
      unfolding of_instruction
      result_among = occurrence_among _ (block_occurs _ b bs m (Memᴰ.append_left _ (instruction_occurs (record { place = p.place; variable = p.instruction.result }) p b.instructions n (Memᴰ.head refl))))

      pub operand_among : (v : ℕ) → Memᴰ (O.Var v) (list_of p.instruction.operands) → Memᴰ v vs
      unfolding of_instruction
      operand_among v k = occurrence_among _ (block_occurs _ b bs m (Memᴰ.append_left _ (instruction_occurs (record { place = p.place; variable = v }) p b.instructions n (Memᴰ.tail (operand_occurs p.place v (list_of p.instruction.operands) k)))))

    terminator_among : (v : ℕ) → Memᴰ (record { place = b.ending; variable = v }) (of_terminator b.ending b.terminator) → Memᴰ v vs
    terminator_among v h = occurrence_among (record { place = b.ending; variable = v }) (block_occurs _ b bs m (Memᴰ.append_right (of_instructions b.instructions) h))

    pub return_among : (v : ℕ) → b.terminator ≡ T.Return (O.Var v) → Memᴰ v vs
    unfolding of_terminator
    return_among v q = terminator_among v (rw q (at_operand b.ending v))

    pub condition_among : (v to other : ℕ) → b.terminator ≡ T.Branch (O.Var v) to other → Memᴰ v vs
    unfolding of_terminator
    condition_among v to other q = terminator_among v (rw q (at_operand b.ending v))

-- ---- and what is among them has a cell

pub record HasCell (c : Option ℤ) : Type 0 where
  pub offset : ℤ
  pub at : c ≡ Some offset

cell_from_lem : (i v : ℕ) (l : List ℕ) → Memᴰ v l → HasCell (cell_from i l v)
unfolding cell_from
cell_from_lem i v [] m = absurd (Memᴰ.not-nil m)
cell_from_lem i v (x ∷ xs) m =
    pick_ind HasCell (eqb v x) _ _
    (λ t. record { offset = offset_of i; at = refl })
    (λ t. ⊎_elim (λ (q : v ≡ x). absurd (eqb-false v x t q)) (λ (q : Memᴰ v xs). cell_from_lem (suc i) v xs q) (Memᴰ.cases_cons m))

pub has_cell : (v : ℕ) (vs : List ℕ) → Memᴰ v vs → HasCell ((frame_of vs).cell v)
unfolding frame_of
has_cell v vs m = cell_from_lem 0 v vs m

pub not_missing : (v : ℕ) (vs : List ℕ) → Memᴰ v vs → (frame_of vs).cell v ≡ None → ⊥
not_missing v vs m e =
    let f = has_cell v vs m in
    let q = sym f.at ∙ e in
    let z : ◌≡◌ {A = ℕ} 0 1 = cc in omega arith
