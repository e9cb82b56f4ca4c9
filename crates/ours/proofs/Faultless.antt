-- The code of a unit with blocks has no fault.
use mathlib.Core.Path.{◌≡◌, refl}
use mathlib.Core.Bool.{true}
use mathlib.Core.Logic.{inl}
use mathlib.Core.List.{List, ◌∷◌}
use Prim.Native.Nat.{ℕ, suc, ◌+◌, ◌<◌, ◌≤◌}
use native.Mathlib.Omega.{arith}
use Rattle.unitfile.specs.Unit.{BasicBlock}
use Rattle.lower.specs.Op.{Op, plain, slots_of}
use Rattle.layout.specs.Layout.{laid, Context, blocks}
use Rattle.layout.specs.Jumps.{Start, starts, starts_from, lands, landing, jumps}
use Rattle.layout.specs.Code.{insns, relocations}
use Rattle.shape.specs.Code.{slots, start}
use Rattle.shape.specs.Fields.{uses}
use Rattle.paths.specs.Registers.{reads, at_start, with, after}
use Rattle.screen.specs.Faultless.{NoFault}
use Rattle.ours.proofs.Safe.{holds_base, out, Inside, inside, no_path_fault}
use Rattle.ours.proofs.Standing.{Here, after_plain}
use Rattle.ours.proofs.Pieces.{Kept, kept_cons, fine_here, step_here}
use Rattle.ours.proofs.Steps.{one_read}
use Rattle.ours.proofs.Instructions.{Cells}
use Rattle.ours.proofs.Endings.{Slot}
use Rattle.ours.proofs.Blocks.{blocks_narrow, begins_good, blocks_fine, blocks_inside}
use Rattle.ours.proofs.Whole.{first, keeps_first, first_narrow, code, code_slots, whole, length_right, judged_right}

module _ (c : Context) (known : Cells c.frame) (k : BasicBlock) (ks : List BasicBlock) (rest : List Op) (others : blocks c 0 (k ∷ ks) ≡ laid rest) (land : landing (starts c (k ∷ ks)) (jumps c (k ∷ ks)) ≡ lands) where
  abbrev xs : List Start
  xs = starts c (k ∷ ks)

  abbrev bytes : List ℕ
  bytes = code xs (plain first ∷ rest)

  behind_first : Here bytes xs 1 rest
  behind_first = (after_plain bytes xs 0 first rest first_narrow (whole xs (plain first ∷ rest))).1

  room : 1 + slots_of rest ≤ slots bytes
  unfolding slots_of
  room = omega (arith, code_slots xs (plain first ∷ rest))

  good : (p : ℕ) → Slot xs p → (p < slots bytes) × (start bytes p ≡ true)
  unfolding starts
  good = begins_good c known bytes xs 0 1 (k ∷ ks) rest others behind_first room

  kept : Kept bytes 0 (suc (slots_of rest))
  unfolding jumps insns uses
  kept = kept_cons (fine_here bytes 0 keeps_first (whole xs (plain first ∷ rest)).stands.0 refl) (blocks_fine c known bytes xs good 0 1 (k ∷ ks) rest others behind_first room land)

  inside_first : Inside bytes (Slot xs) 0 at_start
  unfolding insns uses reads after at_start with starts starts_from
  inside_first =
      step_here bytes 0 keeps_first (whole xs (plain first ∷ rest)).stands.0 refl refl (omega (arith, room)) (one_read 1 (λ x. refl) refl) (out (inl refl) (holds_base refl refl))

  pub no_fault : slots_of (plain first ∷ rest) ≤ 131072 → NoFault bytes (relocations 0 (plain first ∷ rest))
  unfolding slots_of jumps starts
  no_fault short = (
    length_right xs (plain first ∷ rest) (omega arith) short,
    (
      judged_right xs (plain first ∷ rest) (omega arith) short (first_narrow, blocks_narrow c known 0 (k ∷ ks) rest others) kept,
      no_path_fault bytes (Slot xs) (blocks_inside c known bytes xs good 0 1 (k ∷ ks) rest others behind_first room land) (inside inside_first),
    ),
  )
