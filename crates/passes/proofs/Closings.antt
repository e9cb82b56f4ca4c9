-- The terminators of a unit's blocks, by the places at which their records stand.
use mathlib.Core.Path.{◌≡◌, refl, sym, ap, ◌∙◌}
use mathlib.Core.List.{List, [], ◌∷◌, map}
use Prim.Native.Nat.{ℕ, suc, ◌+◌, ◌<◌}
use native.Mathlib.Nat.{zero-add, add-zero}
use native.Mathlib.Omega.{arith}
use lib.ListN.{length, get_or}
use lib.Seq.{get_or-take}
use Rattle.ir.specs.declared.Terminator.{Terminator}
use Rattle.record.specs.Frame.{next_at}
use Rattle.recordparts.specs.Terminator.{terminator_in}
use Rattle.unitfile.specs.Unit.{BasicBlock, parse, read_unit}
use Rattle.unitfile.specs.declared.Found.{Found}
use Rattle.survey.specs.Surveyed.{endings, blocks_of}
use Rattle.survey.proofs.Bounds.{blocks_count}
use Rattle.survey.proofs.Flat.{endings_count}
use Rattle.survey.specs.Standing.{Standing}
use Rattle.survey.proofs.Standing.{standing, standing_head, standing_tail}
use Rattle.passes.specs.Notes.{closings_at, EndsAt}
use Rattle.std.specs.Prelude.{Ok}

unfoldable pub closings : List BasicBlock → List Terminator
closings [] = []
closings (b ∷ bs) = b.terminator ∷ closings bs

module _ (b : List ℕ) where
  abbrev closes_at : ℕ → Terminator
  closes_at place = terminator_in b (place + 4)

  closings_stand : {place : ℕ} (bs : List BasicBlock) → Standing b place bs → map closes_at (endings bs) ≡ closings bs
  unfolding endings closings
  closings_stand [] s = refl
  closings_stand (k ∷ ks) s = rw ((standing_head s).ends.value, closings_stand {place = next_at b k.ending} ks (standing_tail s))

  read_at : (places xs : List ℕ) (k : ℕ) → ((i : ℕ) → i < length xs → get_or places (k + i) 0 ≡ get_or xs i 0) → closings_at b places k (length xs) ≡ map closes_at xs
  unfolding closings_at
  read_at places [] k h = refl
  read_at places (x ∷ xs) k h =
      let first : get_or places k 0 ≡ x = ap (λ (n : ℕ). get_or places n 0) (sym (add-zero k)) ∙ h 0 (omega arith) in
      let rest = read_at places xs (suc k) (λ i l. let z : suc k + i ≡ k + suc i = omega arith in ap (λ (n : ℕ). get_or places n 0) z ∙ h (suc i) (omega arith)) in
      rw (first, rest)

  -- where a unit was read whole, they are those of its blocks
  pub closings_at_lem : (found : Found) (es : List ℕ) → read_unit b ≡ Ok found → EndsAt b es → closings_at b es 0 found.blocks ≡ closings (blocks_of (parse b))
  closings_at_lem found es e ends =
      let bs = blocks_of (parse b) in
      let n = endings_count bs in
      ap (closings_at b es 0) (sym (blocks_count b found e) ∙ sym n)
      ∙ read_at es (endings bs) 0 (λ i l. ap (λ (k : ℕ). get_or es k 0) (zero-add i) ∙ sym (get_or-take (length bs) es i 0 (omega arith)) ∙ ap (λ (m : List ℕ). get_or m i 0) ends)
      ∙ closings_stand bs (standing b found e)
