-- What lowering is told of a unit's branch conditions: a mark beside each of the sorted variables. No public promise names these.
use Rattle.std.specs.Prelude.{Bool, false, List, [], ◌∷◌, ℕ, suc, eqb, ltb, length, set}
use Rattle.std.specs.Int.{w32}
use Rattle.wire.specs.Pick.{pick}
use Rattle.wire.specs.Le.{byte_at, unsigned_at}
use Rattle.frame.specs.Hint.{index_by, frame_by}
use Rattle.layout.specs.Layout.{Context}
use Rattle.jumps.specs.Landed.{marked}

unfoldable pub condition_from : ℕ → List ℕ → List ℕ → ℕ → Bool
condition_from i [] marks v = false
condition_from i (x ∷ xs) marks v = pick (eqb v x) (marked marks i) (condition_from (suc i) xs marks v)

unfoldable pub mark_from : ℕ → List ℕ → List ℕ → ℕ → List ℕ
mark_from i [] marks v = marks
mark_from i (x ∷ xs) marks v = pick (eqb v x) (set marks i 1) (mark_from (suc i) xs marks v)

-- the same by the variable's index among the variables
unfoldable pub condition_at : List ℕ → List ℕ → ℕ → Bool
condition_at vs marks i = pick (ltb i (length vs)) (marked marks i) false

unfoldable pub mark_at : List ℕ → List ℕ → ℕ → List ℕ
mark_at vs marks i = pick (ltb i (length vs)) (set marks i 1) marks

-- what lowering is told, by the variables, the hints of their indices and their marks
abbrev pub context_of : List ℕ → List ℕ → List ℕ → Context
context_of vs hs ms = record { frame = frame_by vs hs; condition = λ v. condition_at vs ms (index_by vs hs v) }

-- whether the instruction in a payload is a NullCheck, opcode 7, whose result is a branch condition: no other opcode looks at it
unfoldable pub condition_in : Context → List ℕ → Bool
condition_in c p = pick (eqb (byte_at p 4) 7) (c.condition (unsigned_at w32 p 0)) false
