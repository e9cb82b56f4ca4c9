-- The three numbers of an answer. Success is 0 and what the call tells; a refusal is its number, its place and its value, the value as 64 bits in two's complement.
use Rattle.std.specs.Prelude.{ℕ, List, [], ◌∷◌}
use Rattle.std.specs.Int.{w64}
use Rattle.std.proofs.Common.{of_z}
use Rattle.wire.specs.declared.refusal.Refusal.{Refusal}

abbrev pub done_with : ℕ → ℕ → List ℕ
done_with first second = 0 ∷ first ∷ second ∷ []

unfoldable pub numbers_of : Refusal → List ℕ
numbers_of r = r.number ∷ r.place ∷ of_z w64 r.value ∷ []

-- the answers that 01's table has no number for: a map that is not there, and bytes that are not eight
abbrev pub only_number : ℕ → List ℕ
only_number number = number ∷ 0 ∷ 0 ∷ []

abbrev pub no_such_map : List ℕ
no_such_map = only_number 1000

abbrev pub not_eight : List ℕ
not_eight = only_number 1001
