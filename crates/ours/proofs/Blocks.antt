-- Blocks one after the other: each begins at a start, keeps the shape rules, and is safe from R6 and R10.
use mathlib.Core.Path.{◌≡◌, refl, sym, ap, ◌∙◌, subst}
use mathlib.Core.Bool.{true}
use mathlib.Core.Logic.{⊎_elim}
use mathlib.Core.List.{List, [], ◌∷◌, ◌++◌}
use Prim.Native.Nat.{ℕ, ◌+◌, ◌<◌, ◌≤◌}
use native.Mathlib.Nat.{add-zero}
use native.Mathlib.Omega.{arith}
use Rattle.unitfile.specs.Unit.{PlacedInstruction, BasicBlock}
use Rattle.lower.specs.Op.{Op, Lowered, becomes, refused, slots_of}
use Rattle.lower.specs.Instruction.{instruction, scratch_after}
use Rattle.lower.specs.Terminator.{terminator}
use Rattle.layout.specs.Layout.{Laid, laid, refused_at, at, ◌then◌, Context, instructions, scratch_through, block, blocks, ops, slots as slotsIn}
use Rattle.layout.specs.Jumps.{Start, starts_from, lands, landing, patches, jumps_from}
use Rattle.layout.proofs.Laid.{slots_append}
use Rattle.shape.specs.Code.{slots, start}
use Rattle.paths.specs.Registers.{Regs}
use Rattle.ours.proofs.Safe.{base, Inside, inside}
use Rattle.ours.proofs.Standing.{Narrow, narrow_append, Here, front, back}
use Rattle.ours.proofs.Pieces.{Kept, kept_none, kept_join, Piece}
use Rattle.ours.proofs.Instructions.{Cells, Moves, m_instruction}
use Rattle.ours.proofs.Endings.{Slot, landing_parts, Ending, Ends, ends, ending_narrow, ending_some, ending_fine, ending_inside}

-- ---- operations that are laid one after the other

pub record Split (x y : Laid) (l : List Op) : Type 0 where
  pub first : List Op
  pub second : List Op
  pub is : l ≡ first ++ second
  pub before : x ≡ laid first
  pub behind : y ≡ laid second

pub split : (x y : Laid) (l : List Op) → (x then y) ≡ laid l → Split x y l
unfolding ◌then◌
split (laid a) (laid b) l e = record { first = a; second = b; is = cc; before = refl; behind = refl }
split (laid a) (refused_at p r) l e = let z : ◌≡◌ {A = ℕ} 0 1 = cc in absurd (omega arith)
split (refused_at p r) (laid b) l e = let z : ◌≡◌ {A = ℕ} 0 1 = cc in absurd (omega arith)
split (refused_at p r) (refused_at q s) l e = let z : ◌≡◌ {A = ℕ} 0 1 = cc in absurd (omega arith)

pub at_is : (place : ℕ) (x : Lowered) (l : List Op) → at place x ≡ laid l → x ≡ becomes l
unfolding at
at_is place (becomes a) l e = cc
at_is place (refused r) l e = let z : ◌≡◌ {A = ℕ} 0 1 = cc in absurd (omega arith)

slots_are : {x : Laid} {l : List Op} → x ≡ laid l → slotsIn x ≡ slots_of l
unfolding slotsIn ops
slots_are e = ap (λ (y : Laid). slots_of (ops y)) e

-- ---- a block's instructions

pub record Body (l : List Op) : Type 1 where
  pub narrow : Narrow l
  pub fine : (b : List ℕ) (xs : List Start) (s : ℕ) → Here b xs s l → s + slots_of l < slots b → Kept b s (slots_of l)
  pub safe : (b : List ℕ) (xs : List Start) (Out : ℕ → Type 0) (s : ℕ) → Here b xs s l → s + slots_of l < slots b → Inside b Out (s + slots_of l) base → Inside b Out s base

body_none : Body []
unfolding slots_of
body_none = record { narrow = tt; fine = λ b xs s h l. kept_none; safe = λ b xs Out s h l i. rw add-zero at i }

body_join : {a c : List Op} → Piece a base base → Body c → Body (a ++ c)
body_join {a} {c} p q =
    record {
      narrow = narrow_append a c p.narrow q.narrow;
      fine = λ b xs s h l.
          let n = slots_append a c in
          rw n (kept_join (p.fine b xs s (front b xs s a c h) (omega arith)) (q.fine b xs (s + slots_of a) (back b xs s a c p.narrow h) (omega arith)));
      safe = λ b xs Out s h l i.
          let n = slots_append a c in
          let e : s + slots_of (a ++ c) ≡ s + slots_of a + slots_of c = omega arith in
          p.safe b xs Out s (front b xs s a c h) (omega arith)
          (inside (q.safe b xs Out (s + slots_of a) (back b xs s a c p.narrow h) (omega arith) (rw e at i)));
    }

pub moved : {x : Lowered} {D E : Regs} → Moves x D E → (l : List Op) → x ≡ becomes l → Piece l D E
moved {D = D} {E = E} (Moves.some {l = k} p) l e = let q : k ≡ l = cc in subst (λ (y : List Op). Piece y D E) q p
moved Moves.none l e = let z : ◌≡◌ {A = ℕ} 0 1 = cc in absurd (omega arith)

ended : {x : Lowered} → Ends x → (l : List Op) → x ≡ becomes l → Ending l
ended (Ends.some {l = k} p) l e = let q : k ≡ l = cc in subst Ending q p
ended Ends.none l e = let z : ◌≡◌ {A = ℕ} 0 1 = cc in absurd (omega arith)

module _ (c : Context) (cells : Cells c.frame) where
  bodies : (j : ℕ) (ps : List PlacedInstruction) (l : List Op) → instructions c j ps ≡ laid l → Body l
  unfolding instructions
  bodies j [] l e = let q : [] ≡ l = cc in subst Body q body_none
  bodies j (p ∷ ps) l e =
      let m = split (at p.place (instruction c.frame j (c.condition p.instruction.result) p.instruction)) (instructions c (scratch_after j p.instruction) ps) l e in
      let a = moved (m_instruction c.frame cells j (c.condition p.instruction.result) p.instruction) m.first (at_is p.place _ m.first m.before) in
      subst Body (sym m.is) (body_join a (bodies (scratch_after j p.instruction) ps m.second m.behind))

  -- ---- a block, and those after it

  pub record Parts (j : ℕ) (k : BasicBlock) (ks : List BasicBlock) (l : List Op) : Type 1 where
    pub body : List Op
    pub tail : List Op
    pub rest : List Op
    pub is : l ≡ body ++ tail ++ rest
    pub within : Body body
    pub ending : Ending tail
    pub inner : instructions c j k.instructions ≡ laid body
    pub last : ops (at k.ending (terminator c.frame k.terminator)) ≡ tail
    pub whole : slotsIn (block c j k) ≡ slots_of body + slots_of tail
    pub others : blocks c (scratch_through j k.instructions) ks ≡ laid rest

  pub parts : (j : ℕ) (k : BasicBlock) (ks : List BasicBlock) (l : List Op) → blocks c j (k ∷ ks) ≡ laid l → Parts j k ks l
  unfolding blocks block ops ◌then◌
  parts j k ks l e =
      let m = split (block c j k) (blocks c (scratch_through j k.instructions) ks) l e in
      let n = split (instructions c j k.instructions) (at k.ending (terminator c.frame k.terminator)) m.first m.before in
      record {
        body = n.first;
        tail = n.second;
        rest = m.second;
        is = m.is ∙ ap (λ (y : List Op). y ++ m.second) n.is;
        within = bodies j k.instructions n.first n.before;
        ending = ended (ends c.frame cells k.terminator) n.second (at_is k.ending _ n.second n.behind);
        inner = n.before;
        last = ap ops n.behind;
        whole = slots_are m.before ∙ ap slots_of n.is ∙ slots_append n.first n.second;
        others = m.behind;
      }

  pub blocks_narrow : (j : ℕ) (ks : List BasicBlock) (l : List Op) → blocks c j ks ≡ laid l → Narrow l
  unfolding blocks
  blocks_narrow j [] l e = let q : [] ≡ l = cc in subst Narrow q tt
  blocks_narrow j (k ∷ ks) l e =
      let P = parts j k ks l e in
      subst Narrow (sym P.is)
      (narrow_append (P.body ++ P.tail) P.rest (narrow_append P.body P.tail P.within.narrow (ending_narrow P.ending)) (blocks_narrow (scratch_through j k.instructions) ks P.rest P.others))

  -- ---- where they stand

  module _ (b : List ℕ) (xs : List Start) where
    record Stand (j s : ℕ) (k : BasicBlock) (ks : List BasicBlock) (l : List Op) (P : Parts j k ks l) : Type 0 where
      first : Here b xs s P.body
      second : Here b xs (s + slots_of P.body) P.tail
      third : Here b xs (s + slotsIn (block c j k)) P.rest
      size : slots_of l ≡ slotsIn (block c j k) + slots_of P.rest

    stand : (j s : ℕ) (k : BasicBlock) (ks : List BasicBlock) (l : List Op) (P : Parts j k ks l) → Here b xs s l → Stand j s k ks l P
    stand j s k ks l P h =
        let all = subst (Here b xs s) P.is h in
        let block = front b xs s (P.body ++ P.tail) P.rest all in
        let narrow = narrow_append P.body P.tail P.within.narrow (ending_narrow P.ending) in
        let n = slots_append P.body P.tail ∙ sym P.whole in
        record {
          first = front b xs s P.body P.tail block;
          second = back b xs s P.body P.tail P.within.narrow block;
          third = subst (λ (x : ℕ). Here b xs (s + x) P.rest) n (back b xs s (P.body ++ P.tail) P.rest narrow all);
          size = ap slots_of P.is ∙ slots_append (P.body ++ P.tail) P.rest ∙ ap (λ (x : ℕ). x + slots_of P.rest) n;
        }

    -- each block begins at a start
    pub begins_good : (j s : ℕ) (ks : List BasicBlock) (l : List Op) → blocks c j ks ≡ laid l → Here b xs s l → s + slots_of l ≤ slots b
        → (p : ℕ) → Slot (starts_from c j s ks) p → (p < slots b) × (start b p ≡ true)
    unfolding starts_from
    begins_good j s [] l e h r p o = absurd o
    begins_good j s (k ∷ ks) l e h r p o =
        let P = parts j k ks l e in
        let S = stand j s k ks l P h in
        let some = ending_some P.ending in
        ⊎_elim (λ (q : p ≡ s). rw q (omega (arith, S.size, P.whole), h.begins))
        (begins_good (scratch_through j k.instructions) (s + slotsIn (block c j k)) ks P.rest P.others S.third (omega (arith, S.size)) p) o

    module _ (good : (p : ℕ) → Slot xs p → (p < slots b) × (start b p ≡ true)) where
      -- the landing of a block's jumps and of those after it
      landed : (j s : ℕ) (k : BasicBlock) (ks : List BasicBlock) (l : List Op) (P : Parts j k ks l) → landing xs (jumps_from c j s (k ∷ ks)) ≡ lands
          → (landing xs (patches k.ending (s + slots_of P.body) P.tail) ≡ lands) × (landing xs (jumps_from c (scratch_through j k.instructions) (s + slotsIn (block c j k)) ks) ≡ lands)
      unfolding jumps_from
      landed j s k ks l P e =
          let own = patches k.ending (s + slotsIn (instructions c j k.instructions)) (ops (at k.ending (terminator c.frame k.terminator))) in
          let m = landing_parts xs own (jumps_from c (scratch_through j k.instructions) (s + slotsIn (block c j k)) ks) e in
          (rw (slots_are P.inner, P.last) at m.0, m.1)

      pub blocks_fine : (j s : ℕ) (ks : List BasicBlock) (l : List Op) → blocks c j ks ≡ laid l → Here b xs s l → s + slots_of l ≤ slots b → landing xs (jumps_from c j s ks) ≡ lands → Kept b s (slots_of l)
      unfolding blocks slots_of
      blocks_fine j s [] l e h r d = let q : [] ≡ l = cc in subst (λ (y : List Op). Kept b s (slots_of y)) q kept_none
      blocks_fine j s (k ∷ ks) l e h r d =
          let P = parts j k ks l e in
          let S = stand j s k ks l P h in
          let D = landed j s k ks l P d in
          let some = ending_some P.ending in
          let q : s + (slots_of P.body + slots_of P.tail) ≡ s + slotsIn (block c j k) = ap (λ (x : ℕ). s + x) (sym P.whole) in
          rw (S.size, P.whole)
          (kept_join
          (kept_join (P.within.fine b xs s S.first (omega (arith, S.size, P.whole))) (ending_fine b xs good k.ending (s + slots_of P.body) P.ending S.second (omega (arith, S.size, P.whole)) D.0))
          (rw q (blocks_fine (scratch_through j k.instructions) (s + slotsIn (block c j k)) ks P.rest P.others S.third (omega (arith, S.size)) D.1)))

      -- and is safe
      pub blocks_inside : (j s : ℕ) (ks : List BasicBlock) (l : List Op) → blocks c j ks ≡ laid l → Here b xs s l → s + slots_of l ≤ slots b → landing xs (jumps_from c j s ks) ≡ lands
          → (p : ℕ) → Slot (starts_from c j s ks) p → Inside b (Slot xs) p base
      unfolding starts_from
      blocks_inside j s [] l e h r d p o = absurd o
      blocks_inside j s (k ∷ ks) l e h r d p o =
          let P = parts j k ks l e in
          let S = stand j s k ks l P h in
          let D = landed j s k ks l P d in
          let some = ending_some P.ending in
          ⊎_elim
          (λ (q : p ≡ s). rw q (P.within.safe b xs (Slot xs) s S.first (omega (arith, S.size, P.whole))
          (ending_inside b xs good k.ending (s + slots_of P.body) P.ending S.second (omega (arith, S.size, P.whole)) D.0)))
          (blocks_inside (scratch_through j k.instructions) (s + slotsIn (block c j k)) ks P.rest P.others S.third (omega (arith, S.size)) D.1 p) o
