-- Where the records of a unit's blocks stand: after its block record, a block's instructions one after the other, then its terminator; then the next block.
use mathlib.Core.Path.{◌≡◌, refl, sym, ap, ◌∙◌, subst}
use mathlib.Core.List.{List, [], ◌∷◌, ◌++◌, map}
use Prim.Native.Nat.{ℕ, ◌+◌, ◌<◌, ◌≤◌}
use native.Mathlib.Omega.{arith}
use lib.ListN.{length}
use Rattle.ir.specs.declared.Instruction.{Instruction}
use Rattle.ir.specs.declared.Terminator.{Terminator}
use Rattle.record.specs.Frame.{next_at}
use Rattle.record.specs.declared.Record.TheVariants as R
use Rattle.unitfile.specs.Records.{Cursor, Placed, records, at_block, records_from}
use Rattle.unitfile.specs.Unit.{PlacedInstruction, BasicBlock, parse, read_unit}
use Rattle.unitfile.specs.declared.Found.{Found}
use Rattle.unitfile.proofs.Blocks.{block_record, instruction_record, terminator_record, onto, flat}
use Rattle.recordparts.specs.Stands.{InstructionAt, TerminatorAt}
use Rattle.recordparts.proofs.InBytes.{block_in, instruction_in_lem, terminator_in_lem}
use Rattle.unitfile.proofs.Run.{later, came}
use Rattle.unitfile.proofs.Sizes.{payload_size, step_size}
use Rattle.survey.specs.Surveyed.{blocks_of}
use Rattle.survey.specs.Standing.{Chain, done, next, BlockAt, Standing, none, more}
use Rattle.survey.proofs.Bounds.{blocks_flat}
use Rattle.std.specs.Prelude.{Ok}

-- ---- step by step

-- the instruction that stands first, and those after it
pub record First (b : List ℕ) (end at : ℕ) (is : List PlacedInstruction) : Type 0 where
  pub instruction : Instruction
  pub others : List PlacedInstruction
  pub are : is ≡ record { place = at; instruction = instruction } ∷ others
  pub here : InstructionAt b at instruction
  pub chain : Chain b end (next_at b at) others

pub chain_within : {b : List ℕ} {end at : ℕ} {is : List PlacedInstruction} → Chain b end at is → at ≤ end
chain_within done = omega arith
chain_within (next h l c) = omega arith

-- at the end there are no more
pub chain_empty : {b : List ℕ} {end at : ℕ} {is : List PlacedInstruction} → Chain b end at is → end ≤ at → is ≡ []
chain_empty done l = refl
chain_empty (next h k c) l = absurd (omega arith)

-- before the end there is one
pub chain_first : {b : List ℕ} {end at : ℕ} {is : List PlacedInstruction} → Chain b end at is → at < end → First b end at is
chain_first done l = absurd (omega arith)
chain_first (next {i = i} {is = js} h k c) l = record { instruction = i; others = js; are = refl; here = h; chain = c }

-- the bytes tell which they are
instruction_same : {b : List ℕ} {at : ℕ} {i j : Instruction} → InstructionAt b at i → InstructionAt b at j → i ≡ j
instruction_same {i = i} {j} h k =
    let l = sym h.operands ∙ k.operands in
    let operands : i.operands ≡ j.operands = cc in
    rw (← operands, ← h.opcode ∙ sym k.opcode, ← h.result ∙ sym k.result) refl

pub chain_same : {b : List ℕ} {end at : ℕ} {is js : List PlacedInstruction} → Chain b end at is → Chain b end at js → is ≡ js
chain_same done d = sym (chain_empty d (omega arith))
chain_same {at = at} (next {i = i} {is = is} h l c) d =
    let f = chain_first d l in
    ap (λ (k : Instruction). record { place = at; instruction = k } ∷ is) (instruction_same h f.here)
    ∙ ap (λ (ks : List PlacedInstruction). record { place = at; instruction = f.instruction } ∷ ks) (chain_same c f.chain)
    ∙ sym f.are

pub standing_head : {b : List ℕ} {at : ℕ} {k : BasicBlock} {ks : List BasicBlock} → Standing b at (k ∷ ks) → BlockAt b at k
standing_head (more h s) = h

pub standing_tail : {b : List ℕ} {at : ℕ} {k : BasicBlock} {ks : List BasicBlock} → Standing b at (k ∷ ks) → Standing b (next_at b k.ending) ks
standing_tail (more h s) = s

-- ---- as they were read

module _ (b : List ℕ) (maps : ℕ) where
  -- from a cursor on: instructions and a terminator, and then more
  record Ends (at : ℕ) (is : List PlacedInstruction) (end : ℕ) (t : Terminator) (l : List Placed) : Type 0 where
    chain : Chain b end at is
    ends : TerminatorAt b end t
    within : at ≤ end
    after : next_at b end ≤ length b
    next : Cursor
    at_next : next.at ≡ next_at b end
    rest : records_from b maps next ≡ records l

  ends_at : (is : List PlacedInstruction) (end : ℕ) (t : Terminator) (l : List Placed) (c : Cursor) → records_from b maps c ≡ records (map instruction_record is ++ (terminator_record end t ∷ l)) → Ends c.at is end t l
  ends_at [] end t l c e =
      let h = came b maps c (terminator_record end t) l e in
      let n = later b maps c (R.Terminator t) h.next h.step in
      let here : c.at ≡ end = sym h.place in
      subst (λ (at : ℕ). Ends at [] end t l) (sym here) (record {
        chain = done;
        ends = subst (λ (at : ℕ). TerminatorAt b at t) here (terminator_in_lem b maps c h.next t h.step);
        within = omega arith;
        after = subst (λ (at : ℕ). next_at b at ≤ length b) here (subst (λ (at : ℕ). at ≤ length b) n.next n.within);
        next = h.next;
        at_next = n.next ∙ ap (next_at b) here;
        rest = h.rest;
      })
  ends_at (i ∷ is) end t l c e =
      let h = came b maps c (instruction_record i) (map instruction_record is ++ (terminator_record end t ∷ l)) e in
      let n = later b maps c (R.Instruction i.instruction) h.next h.step in
      let z = ends_at is end t l h.next h.rest in
      let w = z.within in
      let here : c.at ≡ i.place = sym h.place in
      let at = instruction_in_lem b maps c h.next i.instruction h.step in
      let more = subst (λ (at : ℕ). Chain b end at is) n.next z.chain in
      record {
        chain = subst (λ (at : ℕ). Chain b end c.at (record { place = at; instruction = i.instruction } ∷ is)) here (next at (omega (arith, n.later, w)) more);
        ends = z.ends;
        within = omega (arith, n.later, w);
        after = z.after;
        next = z.next;
        at_next = z.at_next;
        rest = z.rest;
      }

  -- a block, and then more
  record Heads (at : ℕ) (k : BasicBlock) (l : List Placed) : Type 0 where
    block : BlockAt b at k
    next : Cursor
    at_next : next.at ≡ next_at b k.ending
    rest : records_from b maps next ≡ records l

  heads_at : (k : BasicBlock) (l : List Placed) (c : Cursor) → records_from b maps c ≡ records (onto k l) → Heads c.at k l
  unfolding onto payload_size
  heads_at k l c e =
      let h = came b maps c (block_record k.place k.id) (map instruction_record k.instructions ++ (terminator_record k.ending k.terminator ∷ l)) e in
      let n = later b maps c (R.Block k.id) h.next h.step in
      let s = step_size b maps c (R.Block k.id) h.next h.step in
      let first : h.next.at ≡ c.at + 8 = omega (arith, s) in
      let z = ends_at k.instructions k.ending k.terminator l h.next h.rest in
      record {
        block = record {
          place = h.place;
          id = block_in b maps c h.next k.id h.step;
          begins = sym n.next ∙ first;
          chain = subst (λ (at : ℕ). Chain b k.ending at k.instructions) first z.chain;
          ends = z.ends;
          within = omega (arith, first, z.within);
          after = z.after;
        };
        next = z.next;
        at_next = z.at_next;
        rest = z.rest;
      }

  stands : (ks : List BasicBlock) (c : Cursor) → records_from b maps c ≡ records (flat ks) → Standing b c.at ks
  unfolding flat
  stands [] c e = none
  stands (k ∷ ks) c e =
      let h = heads_at k (flat ks) c e in
      more h.block (subst (λ (at : ℕ). Standing b at ks) h.at_next (stands ks h.next h.rest))

-- the blocks of a unit that was read
pub standing : (b : List ℕ) (found : Found) → read_unit b ≡ Ok found → Standing b found.body (blocks_of (parse b))
standing b found e = stands b found.maps (blocks_of (parse b)) (at_block found.body found.blocks) (blocks_flat b found e)
