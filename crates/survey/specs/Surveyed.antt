-- What a survey of a unit answers, and leaves in the lent lists: the variables, and of each block its id and the place of its terminator.
use Rattle.std.specs.Prelude.{ℕ, List, [], ◌∷◌, length, Err, Ok, Result}
use Rattle.std.proofs.lemmas.List.Edits.{sets}
use Rattle.unitfile.specs.Unit.{BasicBlock, Parsed, parsed, refused, parse, read_unit}
use Rattle.unitfile.specs.declared.Found.{Found}
use Rattle.survey.specs.Collected.{Collected, all, too_many, collected}
use Rattle.record.specs.declared.Fault.{Fault as ReadFault}
use Rattle.survey.specs.declared.Fault.{Fault}
use Rattle.survey.specs.declared.Fault.TheVariants.{Reading, TooMany}

unfoldable pub ids : List BasicBlock → List ℕ
ids [] = []
ids (b ∷ bs) = b.id ∷ ids bs

unfoldable pub endings : List BasicBlock → List ℕ
endings [] = []
endings (b ∷ bs) = b.ending ∷ endings bs

unfoldable pub blocks_of : Parsed → List BasicBlock
blocks_of (parsed u) = u.blocks
blocks_of (refused f) = []

unfoldable pub variables_of : Collected → List ℕ
variables_of (all variables) = variables
variables_of (too_many place variables) = variables

-- the answer: the unit that was found and how many variables it has; the reading refusal; or the record bringing the 57th variable
unfoldable pub counted : Found → Collected → Result (Found × ℕ) Fault
counted found (all variables) = Ok (found, length variables)
counted found (too_many place variables) = Err (TooMany place)

-- a reading refusal is the survey's
unfoldable pub of_reading : ReadFault → Fault
of_reading f = Reading f

unfoldable pub answered : Result Found ReadFault → Collected → Result (Found × ℕ) Fault
answered (Ok found) c = counted found c
answered (Err f) c = Err (Reading f)

unfoldable pub surveyed : List ℕ → Result (Found × ℕ) Fault
surveyed b = answered (read_unit b) (collected (blocks_of (parse b)))

-- the lists afterwards
unfoldable pub surveyed_variables : List ℕ → List ℕ → List ℕ
surveyed_variables b l = sets l 0 (variables_of (collected (blocks_of (parse b))))

unfoldable pub surveyed_ids : List ℕ → List ℕ → List ℕ
surveyed_ids b l = sets l 0 (ids (blocks_of (parse b)))

unfoldable pub surveyed_endings : List ℕ → List ℕ → List ℕ
surveyed_endings b l = sets l 0 (endings (blocks_of (parse b)))
