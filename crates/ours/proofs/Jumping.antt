-- Where the jumps of terminators stand: each is an operation JA or JNE, and each such operation is one of them; where its instruction goes; and where blocks stand.
use mathlib.Core.Path.{◌≡◌, refl, sym, ap, ◌∙◌, subst}
use mathlib.Core.Logic.{◌⊎◌, inl, inr, ⊎_elim}
use mathlib.Core.List.Memᴰ
use mathlib.Core.List.{List, [], ◌∷◌, ◌++◌, append_assoc, Memᴰ}
use Prim.Native.Nat.{ℕ, suc, ◌+◌}
use native.Mathlib.Nat.{add-zero}
use native.Mathlib.Numerals.{add-one}
use native.Mathlib.Omega.{arith}
use lib.IntN.{ℤ, pos, ◌+ℤ◌, ◌-ℤ◌, +ℤ_comm, +ℤ_assoc, -ℤ-+ℤ_cancel}
use Rattle.insn.specs.Form.{opcode_of}
use Rattle.insn.specs.declared.Insn.{Insn}
use Rattle.insn.specs.declared.form.Form.TheVariants.{Ja, JneImm}
use Rattle.unitfile.specs.Unit.{PlacedInstruction, BasicBlock}
use Rattle.lower.specs.Op.{Op, plain, map, ja, jne, Lowered, insn, slots_of}
use Rattle.lower.specs.Operand.{move}
use Rattle.lower.specs.Instruction.{instruction, scratch_after}
use Rattle.lower.specs.Step.{map_ops}
use Rattle.lower.specs.Terminator.{terminator}
use Rattle.layout.specs.Layout.{Laid, laid, at as lay, ◌then◌, Context, instructions, scratch_through, block, blocks, unit_ops, ops, slots}
use Rattle.layout.specs.Jumps.{Start, last_start, distance, Jump, jas, jnes, patches, jumps_from, jumps}
use Rattle.layout.specs.Code.{insns, code_bytes, distance_to}
use Rattle.layout.specs.Inner.{plain_ops}
use Rattle.layout.proofs.Laid.{Fine, fine_laid, Both, both_fine, slots_append}
use Rattle.layout.proofs.Tidy.{Tidy, tidy_instruction}
use Rattle.layout.proofs.Written.{insns_append, insns_count}
use Rattle.shape.specs.Code.{at, form_at}
use Rattle.shape.specs.Fields.{uses}
use Rattle.shape.specs.Shape.{target}
use Rattle.paths.specs.Way.{Next}
use Rattle.ours.specs.Landing.{begins_from, begins, scratch_left, StandAt, JumpTo}
use Rattle.ours.proofs.Seen.{seen, Stands, stands_all, stands_back}
use Rattle.ours.proofs.Safe.{jumps_to, branches_to}
use Rattle.ours.proofs.Pieces.{as_seen, has_form}
use Rattle.ours.proofs.Steps.{made, keeps_ja, keeps_jne}
use Rattle.ours.proofs.Endings.{distance_target, Reaches}
use Rattle.std.specs.Prelude.{None, Some}

-- ---- operations among others

pub stand_back : {s p : ℕ} (a : List Op) {l m : List Op} → StandAt (s + slots_of a) l p m → StandAt s (a ++ l) p m
stand_back a t =
    record {
      before = a ++ t.before;
      after = t.after;
      is = ap (λ (k : List Op). a ++ k) t.is ∙ simp append_assoc;
      slot = omega (arith, slots_append a t.before, t.slot);
    }

pub stand_front : {s p : ℕ} {l : List Op} (b : List Op) {m : List Op} → StandAt s l p m → StandAt s (l ++ b) p m
stand_front b t =
    record { before = t.before; after = t.after ++ b; is = ap (λ (k : List Op). k ++ b) t.is ∙ simp append_assoc; slot = t.slot }

-- ---- the operation of a jump

record Placed (s : ℕ) (l : List Op) (x : Jump) : Type 0 where
  op : Op
  stands : StandAt s l x.own (op ∷ [])
  goes : JumpTo op x.id

placed_back : {s : ℕ} (a : List Op) {l : List Op} {x : Jump} → Placed (s + slots_of a) l x → Placed s (a ++ l) x
placed_back a p = record { op = p.op; stands = stand_back a p.stands; goes = p.goes }

placed_front : {s : ℕ} {l : List Op} (b : List Op) {x : Jump} → Placed s l x → Placed s (l ++ b) x
placed_front b p = record { op = p.op; stands = stand_front b p.stands; goes = p.goes }

placed_here : (s : ℕ) (o : Op) (l : List Op) (x : Jump) → s ≡ x.own → JumpTo o x.id → Placed s (o ∷ l) x
unfolding slots_of
placed_here s o l x e g = record { op = o; stands = record { before = []; after = l; is = refl; slot = add-zero s ∙ e }; goes = g }

module _ (place : ℕ) (x : Jump) where
  ja_placed : (s : ℕ) (l : List Op) → Memᴰ x (jas place s l) → Placed s l x
  unfolding jas slots_of
  ja_placed s [] m = absurd (Memᴰ.not-nil m)
  ja_placed s (plain i ∷ l) m = placed_back (plain i ∷ []) (rw add-one (ja_placed (suc s) l m))
  ja_placed s (map n ∷ l) m = placed_back (map n ∷ []) (ja_placed (s + 2) l m)
  ja_placed s (ja id ∷ l) m =
      ⊎_elim (λ (q : x ≡ record { place = place; own = s; id = id }). placed_here s _ l x (ap (λ (y : Jump). y.own) (sym q)) (inl (ap (λ (y : Jump). ja y.id) (sym q))))
      (λ (q : Memᴰ x (jas place (suc s) l)). placed_back (ja id ∷ []) (rw add-one (ja_placed (suc s) l q))) (Memᴰ.cases_cons m)
  ja_placed s (jne id ∷ l) m = placed_back (jne id ∷ []) (rw add-one (ja_placed (suc s) l m))

  jne_placed : (s : ℕ) (l : List Op) → Memᴰ x (jnes place s l) → Placed s l x
  unfolding jnes slots_of
  jne_placed s [] m = absurd (Memᴰ.not-nil m)
  jne_placed s (plain i ∷ l) m = placed_back (plain i ∷ []) (rw add-one (jne_placed (suc s) l m))
  jne_placed s (map n ∷ l) m = placed_back (map n ∷ []) (jne_placed (s + 2) l m)
  jne_placed s (ja id ∷ l) m = placed_back (ja id ∷ []) (rw add-one (jne_placed (suc s) l m))
  jne_placed s (jne id ∷ l) m =
      ⊎_elim (λ (q : x ≡ record { place = place; own = s; id = id }). placed_here s _ l x (ap (λ (y : Jump). y.own) (sym q)) (inr (ap (λ (y : Jump). jne y.id) (sym q))))
      (λ (q : Memᴰ x (jnes place (suc s) l)). placed_back (jne id ∷ []) (rw add-one (jne_placed (suc s) l q))) (Memᴰ.cases_cons m)

  patch_placed : (s : ℕ) (l : List Op) → Memᴰ x (patches place s l) → Placed s l x
  unfolding patches
  patch_placed s l m = ⊎_elim (ja_placed s l) (jne_placed s l) (Memᴰ.append_cases (jas place s l) m)

jump_placed : (c : Context) (x : Jump) (j s : ℕ) (bs : List BasicBlock) → Fine (blocks c j bs) → Memᴰ x (jumps_from c j s bs) → Placed s (ops (blocks c j bs)) x
unfolding blocks block jumps_from slots
jump_placed c x j s [] f m = absurd (Memᴰ.not-nil m)
jump_placed c x j s (b ∷ bs) f m =
    let body = instructions c j b.instructions in
    let ending = lay b.ending (terminator c.frame b.terminator) in
    let k = scratch_through j b.instructions in
    let w = both_fine (body then ending) (blocks c k bs) f in
    let v = both_fine body ending w.first in
    rw w.ops
    (⊎_elim
    (λ (q : Memᴰ x (patches b.ending (s + slots_of (ops body)) (ops ending))).
    placed_front {l = ops (body then ending)} (ops (blocks c k bs)) (rw v.ops (placed_back (ops body) (patch_placed b.ending x (s + slots_of (ops body)) (ops ending) q))))
    (λ (q : Memᴰ x (jumps_from c k (s + slots_of (ops (body then ending))) bs)).
    placed_back (ops (body then ending)) (jump_placed c x k (s + slots_of (ops (body then ending))) bs w.second q))
    (Memᴰ.append_cases (patches b.ending (s + slots_of (ops body)) (ops ending)) m))

-- ---- every jump among operations

-- each JA and JNE to a block among operations from slot s on, by its slot and the id it names
abbrev Each : (ℕ → ℕ → Type 0) → ℕ → List Op → Type 0
Each P s [] = Unit {0}
Each P s (plain i ∷ l) = Each P (suc s) l
Each P s (map m ∷ l) = Each P (s + 2) l
Each P s (ja id ∷ l) = P s id × Each P (suc s) l
Each P s (jne id ∷ l) = P s id × Each P (suc s) l

module _ (P : ℕ → ℕ → Type 0) where
  each_append : (s : ℕ) (a b : List Op) → Each P s a → Each P (s + slots_of a) b → Each P s (a ++ b)
  unfolding slots_of
  each_append s [] b h k = rw add-zero at k
  each_append s (plain i ∷ a) b h k = let e : s + suc (slots_of a) ≡ suc s + slots_of a = omega arith in each_append (suc s) a b h (rw e at k)
  each_append s (map m ∷ a) b h k = let e : s + suc (suc (slots_of a)) ≡ s + 2 + slots_of a = omega arith in each_append (s + 2) a b h (rw e at k)
  each_append s (ja id ∷ a) b h k = let e : s + suc (slots_of a) ≡ suc s + slots_of a = omega arith in (h.0, each_append (suc s) a b h.1 (rw e at k))
  each_append s (jne id ∷ a) b h k = let e : s + suc (slots_of a) ≡ suc s + slots_of a = omega arith in (h.0, each_append (suc s) a b h.1 (rw e at k))

  each_at : (s : ℕ) (front : List Op) (o : Op) (back : List Op) (id : ℕ) → JumpTo o id → Each P s (front ++ (o ∷ back)) → P (s + slots_of front) id
  unfolding slots_of
  each_at s [] o back id g h = rw add-zero (⊎_elim (λ (q : o ≡ ja id). (rw q at h).0) (λ (q : o ≡ jne id). (rw q at h).0) g)
  each_at s (plain i ∷ a) o back id g h = let e : s + suc (slots_of a) ≡ suc s + slots_of a = omega arith in rw e (each_at (suc s) a o back id g h)
  each_at s (map m ∷ a) o back id g h = let e : s + suc (suc (slots_of a)) ≡ s + 2 + slots_of a = omega arith in rw e (each_at (s + 2) a o back id g h)
  each_at s (ja n ∷ a) o back id g h = let e : s + suc (slots_of a) ≡ suc s + slots_of a = omega arith in rw e (each_at (suc s) a o back id g h.1)
  each_at s (jne n ∷ a) o back id g h = let e : s + suc (slots_of a) ≡ suc s + slots_of a = omega arith in rw e (each_at (suc s) a o back id g h.1)

  -- an instruction makes none: NullCheck's own are plain instructions
  each_plain : (s : ℕ) (is : List Insn) → Each P s (plain_ops is)
  unfolding plain_ops
  each_plain s [] = tt
  each_plain s (i ∷ is) = each_plain (suc s) is

  each_tidy : {n : ℕ} (place s : ℕ) (x : Lowered) → Tidy n x → Each P s (ops (lay place x))
  unfolding lay ops map_ops
  each_tidy place s _ (Tidy.some None is most) = each_plain s is
  each_tidy place s _ (Tidy.some (Some m) is most) = each_plain (s + 2) is
  each_tidy place s _ (Tidy.none r) = tt

  each_body : (c : Context) (j s : ℕ) (ps : List PlacedInstruction) → Fine (instructions c j ps) → Each P s (ops (instructions c j ps))
  unfolding instructions ops
  each_body c j s [] f = tt
  each_body c j s (p ∷ ps) f =
      let x = instruction c.frame j (c.condition p.instruction.result) p.instruction in
      let w = both_fine (lay p.place x) (instructions c (scratch_after j p.instruction) ps) f in
      rw w.ops (each_append s (ops (lay p.place x)) _ (each_tidy p.place s x (tidy_instruction c.frame j _ p.instruction)) (each_body c (scratch_after j p.instruction) _ ps w.second))

  each_patch : (place s : ℕ) (l : List Op) → ((x : Jump) → Memᴰ x (jas place s l) → P x.own x.id) → ((x : Jump) → Memᴰ x (jnes place s l) → P x.own x.id) → Each P s l
  unfolding jas jnes
  each_patch place s [] f g = tt
  each_patch place s (plain i ∷ l) f g = each_patch place (suc s) l f g
  each_patch place s (map m ∷ l) f g = each_patch place (s + 2) l f g
  each_patch place s (ja id ∷ l) f g = (f _ (Memᴰ.head refl), each_patch place (suc s) l (λ x m. f x (Memᴰ.tail m)) g)
  each_patch place s (jne id ∷ l) f g = (g _ (Memᴰ.head refl), each_patch place (suc s) l f (λ x m. g x (Memᴰ.tail m)))

  each_block : (c : Context) (j s : ℕ) (bs : List BasicBlock) → Fine (blocks c j bs) → ((x : Jump) → Memᴰ x (jumps_from c j s bs) → P x.own x.id) → Each P s (ops (blocks c j bs))
  unfolding blocks block jumps_from patches slots ops
  each_block c j s [] f h = tt
  each_block c j s (b ∷ bs) f h =
      let body = instructions c j b.instructions in
      let ending = lay b.ending (terminator c.frame b.terminator) in
      let k = scratch_through j b.instructions in
      let t = s + slots_of (ops body) in
      let own = patches b.ending t (ops ending) in
      let w = both_fine (body then ending) (blocks c k bs) f in
      let v = both_fine body ending w.first in
      let tail = each_patch b.ending t (ops ending)
      (λ x m. h x (Memᴰ.append_left _ (Memᴰ.append_left (jnes b.ending t (ops ending)) m)))
      (λ x m. h x (Memᴰ.append_left _ (Memᴰ.append_right (jas b.ending t (ops ending)) m))) in
      let front : Each P s (ops (body then ending)) = rw v.ops (each_append s (ops body) (ops ending) (each_body c j s b.instructions v.first) tail) in
      rw w.ops (each_append s (ops (body then ending)) (ops (blocks c k bs)) front
      (each_block c k (s + slots_of (ops (body then ending))) bs w.second (λ x m. h x (Memᴰ.append_right own m))))

-- ---- the instruction of a jump

-- the instruction at slot p goes to slot t by its offset, and otherwise only where its form says
pub record Jumped (b : List ℕ) (p t : ℕ) : Type 0 where
  pub off : (at b p).off ≡ distance t p
  pub there : target p (at b p).off ≡ pos t
  pub form : (form_at b p ≡ Ja) ⊎ (form_at b p ≡ JneImm)
  pub only : (q : ℕ) → Next b p q → (q ≡ t) ⊎ ((form_at b p ≡ JneImm) × (q ≡ suc p))

module _ (xs : List Start) (b : List ℕ) (p id : ℕ) (R : Reaches xs p id) where
  off_target : (at b p).off ≡ distance R.slot p → target p (at b p).off ≡ pos R.slot
  off_target e = ap (target p) e ∙ distance_target R.slot p

  ja_jumped : at b p ≡ seen (made (opcode_of Ja) 0 0 (distance_to (last_start xs id) p) (pos 0)) → Jumped b p R.slot
  unfolding distance_to uses
  ja_jumped e =
      let g = rw R.is at e in
      let k = keeps_ja (distance R.slot p) R.near in
      let o = ap (λ (i : Insn). i.off) (as_seen b p k g) in
      let f = has_form b p k g in
      record { off = o; there = off_target o; form = inl f; only = λ q n. inl (jumps_to b p Ja f refl (off_target o) n) }

  jne_jumped : at b p ≡ seen (made (opcode_of JneImm) 0 0 (distance_to (last_start xs id) p) (pos 0)) → Jumped b p R.slot
  unfolding distance_to uses
  jne_jumped e =
      let g = rw R.is at e in
      let k = keeps_jne (distance R.slot p) R.near in
      let o = ap (λ (i : Insn). i.off) (as_seen b p k g) in
      let f = has_form b p k g in
      record {
        off = o;
        there = off_target o;
        form = inr f;
        only = λ q n. ⊎_elim (λ e. inr (f, e ∙ add-one p)) (λ e. inl e) (branches_to b p JneImm f refl (off_target o) n);
      }

  op_jumped : (o : Op) (back : List Op) → JumpTo o id → Stands b p (insns xs p (o ∷ back)) → Jumped b p R.slot
  unfolding insns
  op_jumped o back g h = ⊎_elim (λ (q : o ≡ ja id). ja_jumped (rw q at h).0) (λ (q : o ≡ jne id). jne_jumped (rw q at h).0) g

placed_jumped : (xs : List Start) (l : List Op) (x : Jump) (R : Reaches xs x.own x.id) → Placed 0 l x → Jumped (code_bytes (insns xs 0 l)) x.own R.slot
placed_jumped xs l x R P =
    let b = code_bytes (insns xs 0 l) in
    let t = P.stands in
    let is = t.is ∙ append_assoc t.before (P.op ∷ []) t.after in
    let h = subst (Stands b 0) (ap (insns xs 0) is ∙ insns_append xs 0 t.before (P.op ∷ t.after)) (stands_all (insns xs 0 l)) in
    let g = stands_back b 0 (insns xs 0 t.before) (insns xs (0 + slots_of t.before) (P.op ∷ t.after)) h in
    op_jumped xs b x.own x.id R P.op t.after P.goes (rw (insns_count, t.slot) at g)

-- ---- the operations of a block

block_from_lem : (c : Context) (j s : ℕ) (front : List BasicBlock) (b : BasicBlock) (back : List BasicBlock) → Fine (blocks c j (front ++ (b ∷ back))) → StandAt s (ops (blocks c j (front ++ (b ∷ back)))) (begins_from c j s front) (ops (block c (scratch_left j front) b))
unfolding blocks begins_from scratch_left slots slots_of
block_from_lem c j s [] b back f = record { before = []; after = _; is = (both_fine (block c j b) _ f).ops; slot = add-zero s }
block_from_lem c j s (x ∷ front) b back f =
    let k = scratch_through j x.instructions in
    let w = both_fine (block c j x) (blocks c k (front ++ (b ∷ back))) f in
    rw w.ops (stand_back (ops (block c j x)) (block_from_lem c k (s + slots (block c j x)) front b back w.second))

-- ---- a whole unit

module _ (c : Context) (bs : List BasicBlock) (l : List Op) (e : unit_ops c bs ≡ laid l) where
  abbrev entry : Laid
  entry = lay 0 (move 6 1)

  parts : Both entry (blocks c 0 bs)
  unfolding unit_ops
  parts = both_fine entry (blocks c 0 bs) (fine_laid e)

  whole : l ≡ ops entry ++ ops (blocks c 0 bs)
  unfolding unit_ops ops
  whole = sym (ap ops e) ∙ parts.ops

  pub jumped : (xs : List Start) (x : Jump) → Memᴰ x (jumps c bs) → (R : Reaches xs x.own x.id) → Jumped (code_bytes (insns xs 0 l)) x.own R.slot
  unfolding jumps lay move insn ops slots_of
  jumped xs x m R = placed_jumped xs l x R (rw whole (placed_back (ops entry) (jump_placed c x 0 1 bs parts.second m)))

  -- what holds of every jump holds of every JA and JNE to a block
  pub each_jump : (P : ℕ → ℕ → Type 0) → ((x : Jump) → Memᴰ x (jumps c bs) → P x.own x.id)
      → (p : ℕ) (o : Op) (id : ℕ) → StandAt 0 l p (o ∷ []) → JumpTo o id → P p id
  unfolding jumps lay move insn ops slots_of
  each_jump P h p o id t g =
      let is = sym whole ∙ t.is ∙ append_assoc t.before (o ∷ []) t.after in
      rw t.slot at (each_at P 0 t.before o t.after id g (subst (Each P 0) is (each_block P c 0 1 bs parts.second h)))

  pub block_placed : (front : List BasicBlock) (b : BasicBlock) (back : List BasicBlock) → bs ≡ front ++ (b ∷ back) → StandAt 0 l (begins c front) (ops (block c (scratch_left 0 front) b))
  unfolding begins lay move insn ops slots_of
  block_placed front b back q =
      let f = subst (λ (k : List BasicBlock). Fine (blocks c 0 k)) q parts.second in
      rw (whole, q) (stand_back (ops entry) (block_from_lem c 0 1 front b back f))
