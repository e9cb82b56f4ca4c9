-- Where blocks begin, where jumps stand, and the refusals 18 and 19.
use Rattle.std.specs.Prelude.{ℕ, suc, ◌+◌, List, [], ◌∷◌, ◌++◌, eqb, ℤ, pos, ◌-ℤ◌}
use Rattle.wire.specs.Pick.{pick}
use Rattle.wire.specs.Range.{fits16}
use Rattle.unitfile.specs.Unit.{BasicBlock}
use Rattle.lower.specs.Op.{Op, plain, map, ja, jne}
use Rattle.lower.specs.Terminator.{terminator}
use Rattle.layout.specs.Layout.{Context, at, ops, slots, instructions, scratch_through, block}

-- the slot at which each emitted block begins, from slot s and scratch j on
pub record Start : Type 0 where
  pub id : ℕ
  pub slot : ℕ

unfoldable pub starts_from : Context → ℕ → ℕ → List BasicBlock → List Start
starts_from c j s [] = []
starts_from c j s (b ∷ bs) =
    record { id = b.id; slot = s } ∷ starts_from c (scratch_through j b.instructions) (s + slots (block c j b)) bs

unfoldable pub starts : Context → List BasicBlock → List Start
starts c bs = starts_from c 0 1 bs

-- a jump goes to the last emitted block with an id
pub data Target : Type 0 where
  to : ℕ → Target
  nowhere : Target

unfoldable pub or_this : Target → Start → ℕ → Target
or_this (to s) x id = to s
or_this nowhere x id = pick (eqb x.id id) (to x.slot) nowhere

unfoldable pub last_start : List Start → ℕ → Target
last_start [] id = nowhere
last_start (x ∷ xs) id = or_this (last_start xs id) x id

-- distance = target slot − own slot − 1, a signed number
abbrev pub distance : ℕ → ℕ → ℤ
distance target own = pos target -ℤ pos own -ℤ pos 1

-- a jump that a terminator makes: the terminator's place, the jump's own slot, the id it names
pub record Jump : Type 0 where
  pub place : ℕ
  pub own : ℕ
  pub id : ℕ

-- the JA jumps, and the JNE jumps, of operations from slot s on
unfoldable pub jas : ℕ → ℕ → List Op → List Jump
jas place s [] = []
jas place s (plain i ∷ l) = jas place (suc s) l
jas place s (map m ∷ l) = jas place (s + 2) l
jas place s (ja id ∷ l) = record { place = place; own = s; id = id } ∷ jas place (suc s) l
jas place s (jne id ∷ l) = jas place (suc s) l

unfoldable pub jnes : ℕ → ℕ → List Op → List Jump
jnes place s [] = []
jnes place s (plain i ∷ l) = jnes place (suc s) l
jnes place s (map m ∷ l) = jnes place (s + 2) l
jnes place s (ja id ∷ l) = jnes place (suc s) l
jnes place s (jne id ∷ l) = record { place = place; own = s; id = id } ∷ jnes place (suc s) l

-- a terminator's jumps in patch order: for a branch, the false target first
unfoldable pub patches : ℕ → ℕ → List Op → List Jump
patches place s l = jas place s l ++ jnes place s l

unfoldable pub jumps_from : Context → ℕ → ℕ → List BasicBlock → List Jump
jumps_from c j s [] = []
jumps_from c j s (b ∷ bs) =
    patches b.ending (s + slots (instructions c j b.instructions)) (ops (at b.ending (terminator c.frame b.terminator)))
    ++ jumps_from c (scratch_through j b.instructions) (s + slots (block c j b)) bs

unfoldable pub jumps : Context → List BasicBlock → List Jump
jumps c bs = jumps_from c 0 1 bs

-- 18: the target is not emitted; 19: the distance is outside −32,768 to 32,767; each with the terminator's place and the id
pub data Landing : Type 0 where
  lands : Landing
  no_target : ℕ → ℕ → Landing
  too_far : ℕ → ℕ → Landing

unfoldable pub on_target : Jump → Target → Landing
on_target j nowhere = no_target j.place j.id
on_target j (to s) = pick (fits16 (distance s j.own)) lands (too_far j.place j.id)

unfoldable pub or_rest : Landing → Landing → Landing
or_rest lands rest = rest
or_rest (no_target place id) rest = no_target place id
or_rest (too_far place id) rest = too_far place id

-- the first fault of the jumps
unfoldable pub landing : List Start → List Jump → Landing
landing xs [] = lands
landing xs (j ∷ js) = or_rest (on_target j (last_start xs j.id)) (landing xs js)
