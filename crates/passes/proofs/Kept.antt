-- The blocks that are kept: the first of them by its flag, and the others.
use mathlib.Core.Path.{◌≡◌, refl, sym, ap, ◌∙◌, subst}
use mathlib.Core.Bool.{Bool, true, false}
use mathlib.Core.List.{List, [], ◌∷◌, ◌++◌}
use Prim.Native.Nat.{ℕ, suc, ◌+◌}
use Rattle.wire.specs.Pick.{pick}
use Rattle.unitfile.specs.Unit.{BasicBlock}
use Rattle.lower.specs.Terminator.{terminator}
use Rattle.layout.specs.Layout.{Context, Laid, at, ops, slots, ◌then◌, instructions, blocks}
use Rattle.layout.specs.Jumps.{Jump, patches, jumps_from}
use Rattle.layout.specs.Inner.{keep_by, scratch_by, block_by}
use Rattle.layout.proofs.Laid.{nothing_then, Fine, Both, both_fine, no_slots}

module _ (c : Context) where
  blocks_first : (t : Bool) (j : ℕ) (d : BasicBlock) (ds : List BasicBlock) → (block_by c t j d then blocks c (scratch_by t j d) ds) ≡ blocks c j (pick t (d ∷ ds) ds)
  unfolding block_by scratch_by blocks
  blocks_first true j d ds = refl
  blocks_first false j d ds = nothing_then _

  -- the jumps of a block's terminator, from slot s on
  abbrev pub jumps_of : ℕ → ℕ → BasicBlock → List Jump
  jumps_of j s d = patches d.ending (s + slots (instructions c j d.instructions)) (ops (at d.ending (terminator c.frame d.terminator)))

  jumps_first : (t : Bool) (j s : ℕ) (d : BasicBlock) (ds : List BasicBlock) → jumps_from c j s (pick t (d ∷ ds) ds) ≡ pick t (jumps_of j s d) [] ++ jumps_from c (scratch_by t j d) (s + slots (block_by c t j d)) ds
  unfolding jumps_from block_by scratch_by
  jumps_first true j s d ds = refl
  jumps_first false j s d ds = ap (λ (n : ℕ). jumps_from c j n ds) (sym (no_slots false s))

  module _ (e : ℕ → Bool) (k j : ℕ) (d : BasicBlock) (ds : List BasicBlock) where
    abbrev others : Laid
    others = blocks c (scratch_by (e k) j d) (keep_by e (suc k) ds)

    kept_is : (block_by c (e k) j d then others) ≡ blocks c j (keep_by e k (d ∷ ds))
    unfolding keep_by
    kept_is = blocks_first (e k) j d (keep_by e (suc k) ds)

    pub fine_both : Fine (blocks c j (keep_by e k (d ∷ ds))) → Both (block_by c (e k) j d) others
    fine_both f = both_fine _ _ (subst Fine (sym kept_is) f)

    pub ops_both : Fine (blocks c j (keep_by e k (d ∷ ds))) → ops (blocks c j (keep_by e k (d ∷ ds))) ≡ ops (block_by c (e k) j d) ++ ops others
    ops_both f = ap ops (sym kept_is) ∙ (fine_both f).ops

    pub jumps_both : (s : ℕ) → jumps_from c j s (keep_by e k (d ∷ ds)) ≡ pick (e k) (jumps_of j s d) [] ++ jumps_from c (scratch_by (e k) j d) (s + slots (block_by c (e k) j d)) (keep_by e (suc k) ds)
    unfolding keep_by
    jumps_both s = jumps_first (e k) j s d (keep_by e (suc k) ds)
