-- A terminator's jumps, told from the slot after it: a JA is the last slot, a JNE the one before it.
use mathlib.Core.Path.{◌≡◌, refl, sym, ap, ◌∙◌}
use mathlib.Core.Bool.{Bool, true, false}
use mathlib.Core.List.{List, [], ◌∷◌, ◌++◌}
use Prim.Native.Nat.{ℕ, suc, ◌+◌, ◌-◌}
use native.Mathlib.Nat.{add_assoc}
use native.Mathlib.Omega.{arith}
use lib.IntN.{ℤ, pos}
use Rattle.wire.specs.Pick.{pick}
use Rattle.wire.specs.Range.{fits32}
use Rattle.ir.specs.declared.Operand.{Operand}
use Rattle.ir.specs.declared.Operand.TheVariants.{Var, Immediate}
use Rattle.ir.specs.declared.Terminator.{Terminator}
use Rattle.ir.specs.declared.Terminator.TheVariants as T
use Rattle.insn.specs.declared.Insn.{Insn}
use Rattle.insn.specs.declared.form.Form.TheVariants.{Exit}
use Rattle.frame.specs.Cell.{Frame}
use Rattle.unitfile.specs.Unit.{BasicBlock}
use Rattle.lower.specs.Op.{plain, ja, jne, Lowered, becomes, refused, insn, ◌▸◌, slots_of}
use Rattle.lower.specs.Operand.{constant, on_cell, load}
use Rattle.lower.specs.Terminator.{terminator}
use Rattle.lower.specs.declared.Reason.{Reason}
use Rattle.layout.specs.Layout.{Context, Laid, at, ops, slots, instructions, block}
use Rattle.layout.specs.Jumps.{Jump, jas, jnes, patches, jumps_from, Start, Landing, lands, no_target, too_far, or_rest, on_target, last_start, landing}
use Rattle.layout.specs.Inner.{scratch_by, block_by}
use Rattle.layout.proofs.Laid.{Fine, Both, both_fine, slots_then, no_slots}
use Rattle.std.specs.Prelude.{None, Option, Some}

-- ---- a load is one instruction, or it is refused

data One : Lowered → Type 0 where
  some : (i : Insn) → One (becomes (plain i ∷ []))
  none : (r : Reason) → One (refused r)

one_pick : (t : Bool) (a b : Lowered) → One a → One b → One (pick t a b)
one_pick true a b p q = p
one_pick false a b p q = q

one_cell : (v : ℕ) (x : Option ℤ) (g : ℤ → Lowered) → ((z : ℤ) → One (g z)) → One (on_cell v x g)
unfolding on_cell
one_cell v (Some z) g h = h z
one_cell v None g h = none _

one_load : (f : Frame) (r : ℕ) (o : Operand) → One (load f r o)
unfolding load constant insn
one_load f r (Var v) = one_cell v (f.cell v) _ (λ z. some _)
one_load f r (Immediate z) = one_pick (fits32 z) _ _ (some _) (none _)

-- ---- the jumps before a slot

unfoldable pub patched : ℕ → ℕ → Terminator → List Jump
patched place past (T.Return o) = []
patched place past (T.Jump target) = record { place = place; own = past - 1; id = target } ∷ []
patched place past (T.Branch o to other) =
    record { place = place; own = past - 1; id = other } ∷ record { place = place; own = past - 2; id = to } ∷ []

abbrev Ends : ℕ → ℕ → Terminator → Laid → Type 0
Ends place s t x = patches place s (ops x) ≡ patched place (s + slots x) t

refuses : {P : Type 0} (place : ℕ) (r : Reason) → Fine (at place (refused r)) → P
unfolding at ops
refuses place r f = let e = f.is in let z : ◌≡◌ {A = ℕ} 0 1 = cc in absurd (omega arith)

returns : (place s : ℕ) (o : Operand) (x : Lowered) → One x → Fine (at place (x ▸ insn Exit 0 0 (pos 0) (pos 0))) → Ends place s (T.Return o) (at place (x ▸ insn Exit 0 0 (pos 0) (pos 0)))
unfolding ◌▸◌ insn at ops slots slots_of patches jas jnes patched
returns place s o _ (some i) f = refl
returns place s o _ (none r) f = refuses place r f

branches : (place s : ℕ) (o : Operand) (to other : ℕ) (x : Lowered) → One x → Fine (at place (x ▸ becomes (jne to ∷ ja other ∷ []))) → Ends place s (T.Branch o to other) (at place (x ▸ becomes (jne to ∷ ja other ∷ [])))
unfolding ◌▸◌ at ops slots slots_of patches jas jnes patched
branches place s o to other _ (some i) f =
    let a : suc (suc s) ≡ s + 3 - 1 = omega arith in
    let b : suc s ≡ s + 3 - 2 = omega arith in
    rw (← a, ← b)
branches place s o to other _ (none r) f = refuses place r f

ends : (f : Frame) (place s : ℕ) (t : Terminator) → Fine (at place (terminator f t)) → Ends place s t (at place (terminator f t))
unfolding terminator at ops slots slots_of patches jas jnes patched
ends f place s (T.Return o) h = returns place s o (load f 0 o) (one_load f 0 o) h
ends f place s (T.Jump target) h = let a : s ≡ s + 1 - 1 = omega arith in rw (← a)
ends f place s (T.Branch o to other) h = branches place s o to other (load f 0 o) (one_load f 0 o) h

module _ (c : Context) (j s : ℕ) (b : BasicBlock) (f : Fine (block c j b)) where
  parts : Both (instructions c j b.instructions) (at b.ending (terminator c.frame b.terminator))
  unfolding block
  parts = both_fine _ _ f

  jumps_past : patches b.ending (s + slots (instructions c j b.instructions)) (ops (at b.ending (terminator c.frame b.terminator))) ≡ patched b.ending (s + slots (block c j b)) b.terminator
  unfolding block
  jumps_past =
      ends c.frame b.ending (s + slots (instructions c j b.instructions)) b.terminator parts.second
      ∙ ap (λ (n : ℕ). patched b.ending n b.terminator) (add_assoc s _ _ ∙ ap (λ (n : ℕ). s + n) (sym (slots_then _ _ f)))

-- the jumps of a block, emitted or not, and of those after it
pub jumps_first : (c : Context) (t : Bool) (j s : ℕ) (b : BasicBlock) (bs : List BasicBlock) → Fine (block_by c t j b) → jumps_from c j s (pick t (b ∷ bs) bs) ≡ pick t (patched b.ending (s + slots (block_by c t j b)) b.terminator) [] ++ jumps_from c (scratch_by t j b) (s + slots (block_by c t j b)) bs
unfolding jumps_from block_by scratch_by
jumps_first c true j s b bs f = rw (jumps_past c j s b f)
jumps_first c false j s b bs f = ap (λ (n : ℕ). jumps_from c j n bs) (sym (no_slots false s))

-- ---- the first fault of jumps one after the other

pub or_lands : (x : Landing) → or_rest x lands ≡ x
unfolding or_rest
or_lands lands = refl
or_lands (no_target place id) = refl
or_lands (too_far place id) = refl

or_assoc : (x y z : Landing) → or_rest x (or_rest y z) ≡ or_rest (or_rest x y) z
unfolding or_rest
or_assoc lands y z = refl
or_assoc (no_target place id) y z = refl
or_assoc (too_far place id) y z = refl

pub landing_append : (xs : List Start) (a b : List Jump) → landing xs (a ++ b) ≡ or_rest (landing xs a) (landing xs b)
unfolding landing or_rest
landing_append xs [] b = refl
landing_append xs (x ∷ a) b =
    let first = on_target x (last_start xs x.id) in
    ap (or_rest first) (landing_append xs a b) ∙ or_assoc first (landing xs a) (landing xs b)
