-- Every jump of the code is a terminator's, or stays inside its instruction.
use mathlib.Core.Path.{◌≡◌, refl, sym, ap, ◌∙◌, subst}
use mathlib.Core.Bool.{true, true≢false}
use mathlib.Core.Logic.{◌⊎◌, inl, inr, ⊎_elim}
use mathlib.Core.List.Memᴰ
use mathlib.Core.List.{List, [], ◌∷◌, ◌++◌, append_assoc, Memᴰ}
use Prim.Native.Nat.{ℕ, suc, ◌+◌, ◌<◌, ◌≤◌}
use native.Mathlib.Nat.{add-zero}
use native.Mathlib.Numerals.{add-one}
use native.Mathlib.Decide.{dec_lt}
use native.Mathlib.Omega.{arith}
use Rattle.unitfile.specs.Unit.{PlacedInstruction, BasicBlock}
use Rattle.frame.specs.Cell.{frame_of}
use Rattle.lower.specs.Op.{Op, plain, map, ja, jne, becomes, slots_of}
use Rattle.lower.specs.Instruction.{instruction, scratch_after}
use Rattle.layout.specs.Layout.{laid, at as lay, Context, instructions, scratch_through, block, blocks, unit_ops, slots as slotsIn}
use Rattle.layout.specs.Jumps.{Start, starts_from, starts, jumps}
use Rattle.layout.specs.Code.{insns, code_bytes}
use Rattle.layout.proofs.Laid.{slots_append}
use Rattle.insn.specs.declared.Insn.{Insn}
use Rattle.shape.specs.Code.{slots, start}
use Rattle.shape.specs.Fields.{uses}
use Rattle.ours.specs.Landing.{StandAt, JumpsTo, JumpTo, Among, OwnJump}
use Rattle.ours.proofs.Standing.{Narrow, Here, form_by, here_at}
use Rattle.ours.proofs.Pieces.{no_jump}
use Rattle.ours.proofs.Instructions.{Cells, m_instruction}
use Rattle.ours.proofs.Frames.{cells}
use Rattle.ours.proofs.Endings.{Jumpless, Blockward, ending_blockward, ending_some}
use Rattle.ours.proofs.Blocks.{split, at_is, moved, Parts, parts, blocks_narrow}
use Rattle.ours.proofs.Whole.{first, keeps_first, first_narrow, code, code_slots, whole, unit_parts}
use Rattle.ours.proofs.Jumping.{stand_back, stand_front, each_jump}

-- ---- the operation at a slot of a terminator

data OpAt (s : ℕ) (l : List Op) (p : ℕ) : Type 0 where
  blockward : (o : Op) (id : ℕ) → JumpTo o id → StandAt s l p (o ∷ []) → OpAt s l p
  jumpless : (i : Insn) → Jumpless i → StandAt s l p (plain i ∷ []) → OpAt s l p

here : (s : ℕ) (o : Op) (l : List Op) (p : ℕ) → p ≡ s → StandAt s (o ∷ l) p (o ∷ [])
unfolding slots_of
here s o l p e = record { before = []; after = l; is = refl; slot = add-zero s ∙ sym e }

-- at the first slot, or behind it
here_or_behind : {s : ℕ} {o : Op} {l : List Op} {p : ℕ} → slots_of (o ∷ []) ≡ 1 → s ≤ p → (p ≡ s → OpAt s (o ∷ l) p) → (s < p → OpAt (suc s) l p) → OpAt s (o ∷ l) p
here_or_behind {s} {o} {l} {p} n a now later = go (dec_lt s p)
  where
    behind : OpAt (suc s) l p → OpAt s (o ∷ l) p
    behind (blockward x id g t) = blockward x id g (stand_back (o ∷ []) (rw (n, add-one) t))
    behind (jumpless i g t) = jumpless i g (stand_back (o ∷ []) (rw (n, add-one) t))

    go : Dec (s < p) → OpAt s (o ∷ l) p
    go (yes d) = behind (later d)
    go (no d) = now (omega arith)

op_at : (s : ℕ) (l : List Op) → Blockward l → (p : ℕ) → s ≤ p → p < s + slots_of l → OpAt s l p
unfolding slots_of
op_at s [] w p a b = absurd (omega arith)
op_at s (plain i ∷ l) w p a b = here_or_behind refl a (λ e. jumpless i w.0 (here s (plain i) l p e)) (λ d. op_at (suc s) l w.1 p d (omega arith))
op_at s (map m ∷ l) w p a b = absurd w
op_at s (ja id ∷ l) w p a b = here_or_behind refl a (λ e. blockward (ja id) id (inl refl) (here s (ja id) l p e)) (λ d. op_at (suc s) l w p d (omega arith))
op_at s (jne id ∷ l) w p a b = here_or_behind refl a (λ e. blockward (jne id) id (inr refl) (here s (jne id) l p e)) (λ d. op_at (suc s) l w p d (omega arith))

-- ---- which instruction or terminator a slot belongs to

by_size : {R : Type 0} (p a b : ℕ) → (p < a → R) → (a ≤ p → p < b → R) → (b ≤ p → R) → R
by_size {R} p a b low mid high = go (dec_lt p a) (dec_lt p b)
  where
    go : Dec (p < a) → Dec (p < b) → R
    go (yes d) e = low d
    go (no d) (yes e) = mid (omega arith) e
    go (no d) (no e) = high (omega arith)

record InInstruction (c : Context) (ps : List PlacedInstruction) (s : ℕ) (l : List Op) (p : ℕ) : Type 0 where
  one : PlacedInstruction
  its : Memᴰ one ps
  scratch : ℕ
  operations : List Op
  are : instruction c.frame scratch (c.condition one.instruction.result) one.instruction ≡ becomes operations
  first : ℕ
  stand : StandAt s l first operations
  from : first ≤ p
  below : p < first + slots_of operations

record InTerminator (s : ℕ) (l : List Op) (p : ℕ) : Type 0 where
  operations : List Op
  blockward : Blockward operations
  first : ℕ
  stand : StandAt s l first operations
  from : first ≤ p
  below : p < first + slots_of operations

-- no block begins behind the slot a, up to the slot z
abbrev NoneBegins : List Start → ℕ → ℕ → Type 0
NoneBegins xs a z = (x : Start) → Memᴰ x xs → (x.slot ≤ a) ⊎ (z < x.slot)

data In (c : Context) (bs : List BasicBlock) (xs : List Start) (s : ℕ) (l : List Op) (p : ℕ) : Type 0 where
  body : (b : BasicBlock) → Memᴰ b bs → (I : InInstruction c b.instructions s l p) → NoneBegins xs I.first (I.first + slots_of I.operations) → In c bs xs s l p
  ending : InTerminator s l p → In c bs xs s l p

stand_room : {s p : ℕ} {l m : List Op} → StandAt s l p m → (s ≤ p) × (p + slots_of m ≤ s + slots_of l)
stand_room {m = m} t =
    let n = ap slots_of t.is ∙ slots_append (t.before ++ m) t.after in
    let k = slots_append t.before m in
    (omega (arith, t.slot), omega (arith, t.slot))

starts_behind : (c : Context) (j s : ℕ) (bs : List BasicBlock) (x : Start) → Memᴰ x (starts_from c j s bs) → s ≤ x.slot
unfolding starts_from
starts_behind c j s [] x m = absurd (Memᴰ.not-nil m)
starts_behind c j s (b ∷ bs) x m =
    ⊎_elim (λ q. omega (arith, ap (λ (y : Start). y.slot) q)) (λ q. omega (arith, starts_behind c (scratch_through j b.instructions) (s + slotsIn (block c j b)) bs x q)) (Memᴰ.cases_cons m)

behind_first : {x : Start} {xs : List Start} {a z : ℕ} → x.slot ≤ a → NoneBegins xs a z → NoneBegins (x ∷ xs) a z
behind_first h n v m = ⊎_elim (λ q. inl (omega (arith, ap (λ (y : Start). y.slot) q))) (n v) (Memᴰ.cases_cons m)

none_begins : (c : Context) (j s : ℕ) (b : BasicBlock) (bs : List BasicBlock) (a z : ℕ) → s ≤ a → z < s + slotsIn (block c j b) → NoneBegins (starts_from c j s (b ∷ bs)) a z
unfolding starts_from
none_begins c j s b bs a z h g = behind_first {a = a} {z = z} h (λ v m. inr (omega (arith, starts_behind c _ _ bs v m)))

-- the operations l among others, m
module _ {s t p : ℕ} {l m : List Op} (wider : (f : ℕ) (x : List Op) → StandAt s l f x → StandAt t m f x) where
  wide_instruction : {c : Context} {ps qs : List PlacedInstruction} → ((k : PlacedInstruction) → Memᴰ k ps → Memᴰ k qs) → InInstruction c ps s l p → InInstruction c qs t m p
  wide_instruction more I =
      record { one = I.one; its = more I.one I.its; scratch = I.scratch; operations = I.operations; are = I.are; first = I.first; stand = wider I.first I.operations I.stand; from = I.from; below = I.below }

  wide_terminator : InTerminator s l p → InTerminator t m p
  wide_terminator T = record { operations = T.operations; blockward = T.blockward; first = T.first; stand = wider T.first T.operations T.stand; from = T.from; below = T.below }

  wide_in : {c : Context} {bs ks : List BasicBlock} {xs ys : List Start} → ((b : BasicBlock) → Memᴰ b bs → Memᴰ b ks)
      → ((a z : ℕ) → s ≤ a → NoneBegins xs a z → NoneBegins ys a z) → In c bs xs s l p → In c ks ys t m p
  unfolding wide_instruction
  wide_in more apart (body b e I n) = body b (more b e) (wide_instruction (λ k i. i) I) (apart I.first _ (stand_room I.stand).0 n)
  wide_in more apart (ending T) = ending (wide_terminator T)

module _ (c : Context) where
  in_body : (j s : ℕ) (ps : List PlacedInstruction) (l : List Op) → instructions c j ps ≡ laid l → (p : ℕ) → s ≤ p → p < s + slots_of l → InInstruction c ps s l p
  unfolding instructions slots_of
  in_body j s [] l e p a b = let q : [] ≡ l = cc in absurd (omega (arith, ap slots_of q))
  in_body j s (k ∷ ps) l e p a b =
      let m = split (lay k.place (instruction c.frame j (c.condition k.instruction.result) k.instruction)) (instructions c (scratch_after j k.instruction) ps) l e in
      let n = ap slots_of m.is ∙ slots_append m.first m.second in
      go m.first m.second m.is (at_is k.place _ m.first m.before) (dec_lt p (s + slots_of m.first))
      (λ d. in_body (scratch_after j k.instruction) (s + slots_of m.first) ps m.second m.behind p (omega arith) (omega arith))
    where
      go : (x y : List Op) → l ≡ x ++ y → instruction c.frame j (c.condition k.instruction.result) k.instruction ≡ becomes x
          → Dec (p < s + slots_of x) → ((p < s + slots_of x → ⊥) → InInstruction c ps (s + slots_of x) y p) → InInstruction c (k ∷ ps) s l p
      go x y is are (yes d) f =
          record { one = k; its = Memᴰ.head refl; scratch = j; operations = x; are = are; first = s; stand = record { before = []; after = y; is = is; slot = add-zero s }; from = a; below = d }
      go x y is are (no d) f = rw is (wide_instruction (λ _ _ w. stand_back x w) (λ _ i. Memᴰ.tail i) (f d))

  in_blocks : Cells c.frame → (j s : ℕ) (bs : List BasicBlock) (l : List Op) → blocks c j bs ≡ laid l → (p : ℕ) → s ≤ p → p < s + slots_of l → In c bs (starts_from c j s bs) s l p
  unfolding blocks slots_of starts_from wide_instruction
  in_blocks cells j s [] l e p a b = let q : [] ≡ l = cc in absurd (omega (arith, ap slots_of q))
  in_blocks cells j s (k ∷ ks) l e p a b =
      let P = parts c cells j k ks l e in
      let x = P.body in
      let y = P.tail in
      let n = ap slots_of P.is ∙ slots_append (x ++ y) P.rest in
      let m = slots_append x y in
      rw P.is
      (by_size p (s + slots_of x) (s + slots_of (x ++ y))
      (λ d.
      let I = in_body j s k.instructions x P.inner p a d in
      let r = stand_room I.stand in
      body k (Memᴰ.head refl) (wide_instruction (λ _ _ w. stand_front P.rest (stand_front y w)) (λ _ i. i) I)
      (none_begins c j s k ks I.first (I.first + slots_of I.operations) r.0 (omega (arith, r.1, P.whole, ending_some P.ending))))
      (λ d g. ending (record { operations = y; blockward = ending_blockward P.ending; first = s + slots_of x; stand = record { before = x; after = P.rest; is = refl; slot = refl }; from = d; below = omega arith }))
      (λ g. wide_in (λ _ _ w. stand_back (x ++ y) w) (λ _ i. Memᴰ.tail i)
      (λ a z h n. behind_first {a = a} {z = z} (omega arith) n)
      (subst (λ (f : ℕ). In c ks (starts_from c (scratch_through j k.instructions) f ks) (s + slots_of (x ++ y)) P.rest p) (ap (λ (f : ℕ). s + f) (m ∙ sym P.whole))
      (in_blocks cells (scratch_through j k.instructions) (s + slots_of (x ++ y)) ks P.rest P.others p g (omega arith)))))

-- ---- a whole unit

-- every JA and JNE to a block is a terminator's jump
pub every_jump : (c : Context) (bs : List BasicBlock) (l : List Op) → unit_ops c bs ≡ laid l
    → (slot : ℕ) (o : Op) (id : ℕ) → StandAt 0 l slot (o ∷ []) → JumpTo o id → Among (jumps c bs) slot id
every_jump c bs l e = each_jump c bs l e (Among (jumps c bs)) (λ x m. record { jump = x; one = m; own = refl; names = refl })

-- operations among operations among others
stand_in : {s p q : ℕ} {l m n : List Op} → StandAt s l p m → StandAt p m q n → StandAt s l q n
stand_in {n = n} T t =
    record {
      before = T.before ++ t.before;
      after = t.after ++ T.after;
      is = T.is ∙ ap (λ (k : List Op). T.before ++ k ++ T.after) t.is ∙ simp append_assoc;
      slot = omega (arith, slots_append T.before t.before, T.slot, t.slot);
    }

module _ (c : Context) (known : Cells c.frame) (bs : List BasicBlock) (l : List Op) (e : unit_ops c bs ≡ laid l) (xs : List Start) where
  narrow : Narrow l
  narrow = let P = unit_parts c bs l e in subst Narrow (sym P.is) (first_narrow, blocks_narrow c known 0 bs P.rest P.others)

  first_none : {q : ℕ} → JumpsTo (code xs l) 0 q → ⊥
  unfolding insns uses
  first_none w =
      let P = unit_parts c bs l e in
      no_jump (code xs l) 0 keeps_first (subst (λ (y : List Op). Here (code xs l) xs 0 y) P.is (whole xs l)).stands.0 refl w

  belongs : (p : ℕ) → 0 < p → p < slots_of l → In c bs (starts c bs) 0 l p
  unfolding slots_of starts
  belongs p a b =
      let P = unit_parts c bs l e in
      let n = ap slots_of P.is in
      rw P.is (wide_in (λ _ _ w. stand_back (plain first ∷ []) w) (λ _ i. i) (λ _ _ _ n. n) (in_blocks c known 0 1 bs P.rest P.others p a (omega arith)))

  told : (p q : ℕ) → start (code xs l) p ≡ true → JumpsTo (code xs l) p q → In c bs (starts c bs) 0 l p → ((id : ℕ) × Among (jumps c bs) p id) ⊎ OwnJump c bs l p q
  unfolding insns
  told p q s w (body k m I n) =
      let P = moved (m_instruction c.frame known I.scratch (c.condition I.one.instruction.result) I.one.instruction) I.operations I.are in
      let z = (P.confined (code xs l) xs I.first (here_at (code xs l) xs narrow (whole xs l) I.stand)).each p q I.from I.below s w in
      inr (record {
        block = k;
        emitted = m;
        one = I.one;
        its = I.its;
        scratch = I.scratch;
        operations = I.operations;
        are = I.are;
        first = I.first;
        stand = I.stand;
        from = I.from;
        below = I.below;
        forward = z.0;
        inside = z.1;
        no_block = λ x i. ⊎_elim (λ h. omega (arith, z.0, I.from)) (λ h. omega (arith, z.1)) (n x i);
      })
  told p q s w (ending T) = go (op_at T.first T.operations T.blockward p T.from T.below)
    where
      go : OpAt T.first T.operations p → ((id : ℕ) × Among (jumps c bs) p id) ⊎ OwnJump c bs l p q
      go (blockward o id g t) = inl (id, every_jump c bs l e p o id (stand_in T.stand t) g)
      go (jumpless i n t) =
          let h = here_at (code xs l) xs narrow (whole xs l) (stand_in T.stand t) in
          absurd (true≢false (sym (rw (form_by (code xs l) p i h.stands.0) at w.jumps) ∙ n))

  each_told : (p q : ℕ) → p < slots (code xs l) → start (code xs l) p ≡ true → JumpsTo (code xs l) p q → ((id : ℕ) × Among (jumps c bs) p id) ⊎ OwnJump c bs l p q
  each_told p q r s w =
      by_size p 1 (slots (code xs l))
      (λ d. let z : p ≡ 0 = omega arith in absurd (first_none (rw z at w)))
      (λ d g. told p q s w (belongs p d (omega (arith, code_slots xs l))))
      (λ d. absurd (omega arith))

-- every jump of the code is a terminator's, or stays inside its instruction and goes to no block
pub no_other_jump : (c : Context) (vs : List ℕ) (bs : List BasicBlock) (l : List Op) → c.frame ≡ frame_of vs → unit_ops c bs ≡ laid l
    → (p q : ℕ) → p < slots (code_bytes (insns (starts c bs) 0 l)) → start (code_bytes (insns (starts c bs) 0 l)) p ≡ true → JumpsTo (code_bytes (insns (starts c bs) 0 l)) p q
    → ((id : ℕ) × Among (jumps c bs) p id) ⊎ OwnJump c bs l p q
no_other_jump c vs bs l f e = each_told c (subst Cells (sym f) (cells vs)) bs l e (starts c bs)
