-- Blocks of n bytes become at most n/2 slots.
use mathlib.Core.Path.{◌≡◌, ap, subst}
use mathlib.Core.Bool.{Bool, true, false}
use mathlib.Core.List.{List, [], ◌∷◌, ◌++◌, map}
use Prim.Native.Nat.{ℕ, suc, ◌+◌, ◌*◌, ◌≤◌}
use native.Mathlib.Omega.{arith}
use lib.ListN.{length}
use Rattle.wire.specs.Pick.{pick}
use Rattle.ir.specs.Operands.{list_of}
use Rattle.unitfile.specs.Records.{Placed}
use Rattle.unitfile.specs.Unit.{PlacedInstruction, BasicBlock}
use Rattle.unitfile.proofs.Blocks.{instruction_record, terminator_record, onto, flat}
use Rattle.record.specs.Terminator.{terminator_size}
use Rattle.unitfile.proofs.Sizes.{payload_size, sizes}
use Rattle.lower.specs.Op.{Op, slots_of}
use Rattle.lower.specs.Instruction.{instruction, scratch_after}
use Rattle.lower.specs.Terminator.{terminator}
use Rattle.layout.specs.Emitted.{keep, emitted}
use Rattle.layout.specs.Layout.{laid, at, Context, instructions, scratch_through, block, blocks, unit_ops}
use Rattle.layout.proofs.Laid.{slots_append}
use Rattle.ours.proofs.Blocks.{split, at_is}
use Rattle.ours.proofs.Sizes.{instruction_slots, terminator_slots}
use Rattle.ours.proofs.Whole.{unit_parts}

-- ---- the bytes of a block

instruction_bytes : List PlacedInstruction → ℕ
instruction_bytes [] = 0
instruction_bytes (p ∷ ps) = 20 + 9 * length (list_of p.instruction.operands) + instruction_bytes ps

sizes_instructions : (ps : List PlacedInstruction) (l : List Placed) → sizes (map instruction_record ps ++ l) ≡ instruction_bytes ps + sizes l
unfolding instruction_bytes sizes payload_size
sizes_instructions [] l = omega arith
sizes_instructions (p ∷ ps) l = omega (arith, sizes_instructions ps l)

block_bytes : BasicBlock → ℕ
block_bytes k = 8 + instruction_bytes k.instructions + 4 + terminator_size k.terminator

sizes_block : (k : BasicBlock) (ks : List BasicBlock) → sizes (flat (k ∷ ks)) ≡ block_bytes k + sizes (flat ks)
unfolding block_bytes flat onto sizes payload_size
sizes_block k ks = omega (arith, sizes_instructions k.instructions (terminator_record k.ending k.terminator ∷ flat ks))

-- a block that is not emitted takes bytes all the same
pub sizes_keep : (reached : ℕ → Bool) (ks : List BasicBlock) → sizes (flat (keep reached ks)) ≤ sizes (flat ks)
unfolding keep
sizes_keep reached [] = omega arith
sizes_keep reached (k ∷ ks) = go (reached k.id) (sizes_keep reached ks)
  where
    go : (t : Bool) → sizes (flat (keep reached ks)) ≤ sizes (flat ks) → sizes (flat (pick t (k ∷ keep reached ks) (keep reached ks))) ≤ sizes (flat (k ∷ ks))
    go true h = omega (arith, h, sizes_block k (keep reached ks), sizes_block k ks)
    go false h = omega (arith, h, sizes_block k ks)

-- ---- the slots of a block

module _ (c : Context) where
  instructions_slots : (j : ℕ) (ps : List PlacedInstruction) (l : List Op) → instructions c j ps ≡ laid l → 2 * slots_of l ≤ instruction_bytes ps
  unfolding instructions instruction_bytes slots_of
  instructions_slots j [] l e = let q : [] ≡ l = cc in subst (λ (y : List Op). 2 * slots_of y ≤ 0) q (omega arith)
  instructions_slots j (p ∷ ps) l e =
      let m = split (at p.place (instruction c.frame j (c.condition p.instruction.result) p.instruction)) (instructions c (scratch_after j p.instruction) ps) l e in
      let a = instruction_slots c.frame j (c.condition p.instruction.result) p.instruction m.first (at_is p.place _ m.first m.before) in
      let r = instructions_slots (scratch_after j p.instruction) ps m.second m.behind in
      omega (arith, ap slots_of m.is, slots_append m.first m.second)

  block_slots : (j : ℕ) (k : BasicBlock) (l : List Op) → block c j k ≡ laid l → 2 * slots_of l + 8 ≤ block_bytes k
  unfolding block block_bytes
  block_slots j k l e =
      let m = split (instructions c j k.instructions) (at k.ending (terminator c.frame k.terminator)) l e in
      let a = instructions_slots j k.instructions m.first m.before in
      let z = terminator_slots c.frame k.terminator m.second (at_is k.ending _ m.second m.behind) in
      omega (arith, ap slots_of m.is, slots_append m.first m.second)

  blocks_slots : (j : ℕ) (ks : List BasicBlock) (l : List Op) → blocks c j ks ≡ laid l → 2 * slots_of l + 8 * length ks ≤ sizes (flat ks)
  unfolding blocks flat sizes slots_of
  blocks_slots j [] l e = let q : [] ≡ l = cc in subst (λ (y : List Op). 2 * slots_of y + 0 ≤ 0) q (omega arith)
  blocks_slots j (k ∷ ks) l e =
      let m = split (block c j k) (blocks c (scratch_through j k.instructions) ks) l e in
      let a = block_slots j k m.first m.before in
      let r = blocks_slots (scratch_through j k.instructions) ks m.second m.behind in
      omega (arith, ap slots_of m.is, slots_append m.first m.second, sizes_block k ks)

  -- with slot 0
  pub unit_slots : (ks : List BasicBlock) (l : List Op) → unit_ops c ks ≡ laid l → sizes (flat ks) ≤ 262144 → slots_of l ≤ 131072
  unfolding slots_of flat sizes
  unit_slots ks l e h = let P = unit_parts c ks l e in go ks P.rest (blocks_slots 0 ks P.rest P.others) (ap slots_of P.is) h
    where
      go : (ks : List BasicBlock) (rest : List Op) → 2 * slots_of rest + 8 * length ks ≤ sizes (flat ks) → slots_of l ≡ suc (slots_of rest) → sizes (flat ks) ≤ 262144 → slots_of l ≤ 131072
      go [] rest r n h = omega arith
      go (k ∷ ks) rest r n h = omega arith
