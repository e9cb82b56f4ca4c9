-- The places of records, one after the other; and what stands there, if they are those of a block that was read.
use mathlib.Core.Path.{◌≡◌, refl, sym, ap, ◌∙◌}
use mathlib.Core.Bool.{Bool, true, false}
use mathlib.Core.List.{List, [], ◌∷◌, ◌++◌}
use Prim.Native.Nat.{ℕ, zero, suc, ◌+◌, ◌-◌, ◌<◌, ◌≤◌}
use native.Mathlib.Omega.{arith}
use borrow.Author.Tests.{lt-ltb, le-ltb, ltb-true}
use lib.Dec.{ltb}
use mir.Syntax.{w32}
use Rattle.wire.specs.Pick.{pick}
use Rattle.wire.specs.Le.{unsigned_at}
use Rattle.ir.specs.Operands.{list_of}
use Rattle.ir.specs.declared.Instruction.{Instruction}
use Rattle.ir.specs.declared.Terminator.{Terminator}
use Rattle.record.specs.Frame.{next_at}
use Rattle.recordparts.specs.Stands.{InstructionAt}
use Rattle.unitfile.specs.Unit.{PlacedInstruction, BasicBlock}
use Rattle.lower.specs.Op.{Op, Lowered, becomes, refused}
use Rattle.lower.specs.Instruction.{instruction, scratch_after}
use Rattle.lower.specs.Terminator.{terminator}
use Rattle.layout.specs.Layout.{Context, at, ops, instructions, scratch_through, block}
use Rattle.layout.specs.Inner.{block_by, scratch_by}
use Rattle.layout.proofs.Laid.{Fine, both_fine}
use Rattle.survey.specs.Standing.{Chain, BlockAt}
use Rattle.passes.specs.Places.{payload_at, instruction_by, places_in, places, ring_by, ops_at, ring_at, end_ops, block_ops, block_ring}
use Rattle.passes.proofs.Payload.{result_is, instruction_is, scratch_is}
use Rattle.passes.proofs.Ring.{ring_after}

same : (t : Bool) (x y : List ℕ) → (t ≡ true → x ≡ y) → pick t x [] ≡ pick t y []
same true x y h = h refl
same false x y h = refl

-- a record takes 4 bytes at least
later : (b : List ℕ) (first : ℕ) → first + 4 ≤ next_at b first
unfolding next_at
later b first = omega arith

module _ (b : List ℕ) (end : ℕ) where
  enough : (n m first : ℕ) → end - first ≤ n → end - first ≤ m → places_in b end n first ≡ places_in b end m first
  unfolding places_in
  enough zero zero first p q = refl
  enough zero (suc m) first p q = rw (le-ltb first end (omega arith))
  enough (suc n) zero first p q = rw (le-ltb first end (omega arith))
  enough (suc n) (suc m) first p q =
      same (ltb first end) _ _ (λ e.
      let l = ltb-true first end e in
      let w = later b first in
      ap (λ (ps : List ℕ). first ∷ ps) (enough n m (next_at b first) (omega arith) (omega arith)))

  pub places_first : (first : ℕ) → first < end → places b first end ≡ first ∷ places b (next_at b first) end
  unfolding places places_in
  places_first first l =
      let z : end - first ≡ suc (end - first - 1) = omega arith in
      let w = later b first in
      ap (λ (n : ℕ). places_in b end n first) z
      ∙ rw (lt-ltb first end l) (ap (λ (ps : List ℕ). first ∷ ps) (enough (end - first - 1) (end - next_at b first) (next_at b first) (omega arith) (omega arith)))

  pub places_none : (first : ℕ) → end ≤ first → places b first end ≡ []
  unfolding places places_in
  places_none first l = let z : end - first ≡ 0 = omega arith in ap (λ (n : ℕ). places_in b end n first) z

-- ---- instructions that stand there

-- operations do not go by their place
ops_place : (place : ℕ) (x : Lowered) → ops (at place x) ≡ ops (at 0 x)
unfolding ops at
ops_place place (becomes l) = refl
ops_place place (refused r) = refl

module _ (c : Context) (b : List ℕ) where
  instruction_by_lem : (j place : ℕ) (i : Instruction) → InstructionAt b place i → instruction_by c j (payload_at b place) ≡ instruction c.frame j (c.condition i.result) i
  unfolding instruction_by
  instruction_by_lem j place i h = rw (instruction_is b place i h c.frame j (c.condition (unsigned_at w32 (payload_at b place) 0)), result_is b place i h)

  ring_by_lem : (j place : ℕ) (i : Instruction) → InstructionAt b place i → Fine (at place (instruction c.frame j (c.condition i.result) i)) → ring_by c j (payload_at b place) ≡ scratch_after j i
  unfolding ring_by instruction scratch_after
  ring_by_lem j place i h f =
      rw (instruction_by_lem j place i h, scratch_is b place i h j)
      (ring_after c.frame j (c.condition i.result) i.result place i.opcode (list_of i.operands) f)

  module _ (end : ℕ) where
    chain_ops : (j : ℕ) {first : ℕ} {is : List PlacedInstruction} → Chain b end first is → Fine (instructions c j is) → ops (instructions c j is) ≡ ops_at c b j (places b first end)
    unfolding instructions ops ops_at
    chain_ops j Chain.done f = ap (ops_at c b j) (sym (places_none b end end (omega arith)))
    chain_ops j (Chain.next {at = first} {i = i} {is = is} h l ch) f =
        let w = both_fine _ _ f in
        let rest = chain_ops (scratch_after j i) ch w.second in
        w.ops
        ∙ ap (λ (l : List Op). l ++ ops (instructions c (scratch_after j i) is)) (ops_place first _ ∙ ap (λ (x : Lowered). ops (at 0 x)) (sym (instruction_by_lem j first i h)))
        ∙ ap (λ (l : List Op). ops (at 0 (instruction_by c j (payload_at b first))) ++ l) (rest ∙ ap (λ (k : ℕ). ops_at c b k (places b (next_at b first) end)) (sym (ring_by_lem j first i h w.first)))
        ∙ ap (ops_at c b j) (sym (places_first b end first l))

    chain_ring : (j : ℕ) {first : ℕ} {is : List PlacedInstruction} → Chain b end first is → Fine (instructions c j is) → scratch_through j is ≡ ring_at c b j (places b first end)
    unfolding scratch_through instructions ring_at
    chain_ring j Chain.done f = ap (ring_at c b j) (sym (places_none b end end (omega arith)))
    chain_ring j (Chain.next {at = first} {i = i} {is = is} h l ch) f =
        let w = both_fine _ _ f in
        chain_ring (scratch_after j i) ch w.second
        ∙ ap (λ (k : ℕ). ring_at c b k (places b (next_at b first) end)) (sym (ring_by_lem j first i h w.first))
        ∙ ap (ring_at c b j) (sym (places_first b end first l))

  -- ---- a block that stands there

  module _ (j place : ℕ) (d : BasicBlock) (h : BlockAt b place d) where
    pub end_ops_lem : (t : Bool) → end_ops c b t d.ending ≡ pick t (ops (at d.ending (terminator c.frame d.terminator))) []
    unfolding end_ops
    end_ops_lem true = sym (ops_place d.ending _ ∙ ap (λ (u : Terminator). ops (at 0 (terminator c.frame u))) (sym h.ends.value))
    end_ops_lem false = refl

    pub instructions_ops : Fine (instructions c j d.instructions) → ops (instructions c j d.instructions) ≡ ops_at c b j (places b (place + 8) d.ending)
    instructions_ops f = chain_ops d.ending j h.chain f

    pub block_ops_lem : (t : Bool) → Fine (block_by c t j d) → ops (block_by c t j d) ≡ block_ops c b t j (place + 8) d.ending
    unfolding block_by block block_ops ops
    block_ops_lem true f =
        let w = both_fine _ _ f in
        w.ops
        ∙ ap (λ (l : List Op). l ++ ops (at d.ending (terminator c.frame d.terminator))) (instructions_ops w.first)
        ∙ ap (λ (l : List Op). ops_at c b j (places b (place + 8) d.ending) ++ l) (sym (end_ops_lem true))
    block_ops_lem false f = ap (λ (l : List Op). [] ++ l) (sym (end_ops_lem false))

    pub block_ring_lem : (t : Bool) → Fine (block_by c t j d) → scratch_by t j d ≡ block_ring c b t j (place + 8) d.ending
    unfolding scratch_by block_by block block_ring
    block_ring_lem true f = chain_ring d.ending j h.chain (both_fine _ _ f).first
    block_ring_lem false f = refl
