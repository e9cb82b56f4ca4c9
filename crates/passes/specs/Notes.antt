-- What the terminators tell: which variables are branch conditions, and where each block goes.
use Rattle.std.specs.Prelude.{◌≡◌, List, [], ◌∷◌, ℕ, zero, suc, ◌+◌, ◌*◌, length, get_or, take}
use Rattle.std.proofs.lemmas.List.Edits.{sets}
use Rattle.wire.specs.Pick.{both, either}
use Rattle.ir.specs.declared.Operand.{Operand}
use Rattle.ir.specs.declared.Operand.TheVariants.{Var, Immediate}
use Rattle.ir.specs.declared.Terminator.{Terminator}
use Rattle.ir.specs.declared.Terminator.TheVariants.{Return, Jump, Branch}
use Rattle.recordparts.specs.Terminator.{terminator_in}
use Rattle.unitfile.specs.Unit.{BasicBlock, parse}
use Rattle.frame.specs.Hint.{index_by}
use Rattle.flow.specs.Node.{among}
use Rattle.survey.specs.Conditions.{is_condition}
use Rattle.survey.specs.Surveyed.{endings, blocks_of}
use Rattle.passes.specs.Inner.{condition_from, mark_at}

-- the marks after a terminator
unfoldable pub marks_on : List ℕ → List ℕ → List ℕ → Operand → List ℕ
marks_on vs hs marks (Var v) = mark_at vs marks (index_by vs hs v)
marks_on vs hs marks (Immediate z) = marks

unfoldable pub marks_after : List ℕ → List ℕ → List ℕ → Terminator → List ℕ
marks_after vs hs marks (Return o) = marks
marks_after vs hs marks (Jump target) = marks
marks_after vs hs marks (Branch o to other) = marks_on vs hs marks o

unfoldable pub count_of : Terminator → ℕ
count_of (Return o) = 0
count_of (Jump target) = 1
count_of (Branch o to other) = 2

unfoldable pub first_target : Terminator → ℕ
first_target (Return o) = 0
first_target (Jump target) = target
first_target (Branch o to other) = to

unfoldable pub second_target : Terminator → ℕ
second_target (Return o) = 0
second_target (Jump target) = 0
second_target (Branch o to other) = other

-- of every block
unfoldable pub counts_of : List BasicBlock → List ℕ
counts_of [] = []
counts_of (b ∷ bs) = count_of b.terminator ∷ counts_of bs

unfoldable pub pairs_of : List BasicBlock → List ℕ
pairs_of [] = []
pairs_of (b ∷ bs) = first_target b.terminator ∷ second_target b.terminator ∷ pairs_of bs

-- the terminators of the n blocks from block k on, by the places of their records
unfoldable pub closings_at : List ℕ → List ℕ → ℕ → ℕ → List Terminator
closings_at b places k zero = []
closings_at b places k (suc n) = terminator_in b (get_or places k 0 + 4) ∷ closings_at b places (suc k) n

-- what all of some terminators tell
unfoldable pub marks_through : List ℕ → List ℕ → List ℕ → List Terminator → List ℕ
marks_through vs hs marks [] = marks
marks_through vs hs marks (t ∷ ts) = marks_through vs hs (marks_after vs hs marks t) ts

unfoldable pub counts_through : List Terminator → List ℕ
counts_through [] = []
counts_through (t ∷ ts) = count_of t ∷ counts_through ts

unfoldable pub pairs_through : List Terminator → List ℕ
pairs_through [] = []
pairs_through (t ∷ ts) = first_target t ∷ second_target t ∷ pairs_through ts

-- the terminator t of block k is noted
pub record Notes (vs hs : List ℕ) (k : ℕ) (t : Terminator) (ms cs ts ms' cs' ts' : List ℕ) : Type 0 where
  pub marks : ms' ≡ marks_after vs hs ms t
  pub counts : cs' ≡ sets cs k (count_of t ∷ [])
  pub targets : ts' ≡ sets ts (2 * k) (first_target t ∷ second_target t ∷ [])

-- the places of the blocks' terminators stand at the front of a list
abbrev pub EndsAt : List ℕ → List ℕ → Type 0
EndsAt b es = take (length (blocks_of (parse b))) es ≡ endings (blocks_of (parse b))

-- of a whole unit
pub record Noted (bs : List BasicBlock) (vs ms cs ts ms' cs' ts' : List ℕ) : Type 0 where
  pub marks : (v : ℕ) → condition_from 0 vs ms' v ≡ either (condition_from 0 vs ms v) (both (among v vs) (is_condition bs v))
  pub counts : cs' ≡ sets cs 0 (counts_of bs)
  pub targets : ts' ≡ sets ts 0 (pairs_of bs)
