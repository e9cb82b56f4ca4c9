-- Where the jumps of terminators land: on the last emitted block with the id they name, and nowhere else; and how far a jump may go.
use Rattle.std.specs.Prelude.{ℕ, suc, ◌+◌, ◌≤◌, ◌<◌, true, ◌≡◌, ◌⊎◌, ℤ, pos, negsuc}
use mathlib.Core.List.{List, [], ◌∷◌, ◌++◌, Memᴰ}
use Rattle.insn.specs.declared.form.Form.TheVariants.{Ja, JneImm}
use Rattle.unitfile.specs.Unit.{PlacedInstruction, BasicBlock}
use Rattle.lower.specs.Op.{Op, ja, jne, becomes, slots_of}
use Rattle.lower.specs.Instruction.{instruction}
use Rattle.layout.specs.Layout.{Context, slots, scratch_through, block}
use Rattle.layout.specs.Jumps.{Start, starts, Jump, distance, jumps}
use Rattle.shape.specs.Code.{at, form_at}
use Rattle.shape.specs.Fields.{uses}
use Rattle.shape.specs.Shape.{target}
use Rattle.paths.specs.Way.{Next}

-- the slot at which the block after those of front begins, where the first of them begins at slot s with scratch position j
unfoldable pub begins_from : Context → ℕ → ℕ → List BasicBlock → ℕ
begins_from c j s [] = s
begins_from c j s (b ∷ front) = begins_from c (scratch_through j b.instructions) (s + slots (block c j b)) front

-- slot 0 belongs to no block
unfoldable pub begins : Context → List BasicBlock → ℕ
begins c front = begins_from c 0 1 front

-- the scratch position that blocks leave
unfoldable pub scratch_left : ℕ → List BasicBlock → ℕ
scratch_left j [] = j
scratch_left j (b ∷ front) = scratch_left (scratch_through j b.instructions) front

-- the operations m stand at slot p of the operations l, which begin at slot s
pub record StandAt (s : ℕ) (l : List Op) (p : ℕ) (m : List Op) : Type 0 where
  pub before : List Op
  pub after : List Op
  pub is : l ≡ before ++ m ++ after
  pub slot : s + slots_of before ≡ p

abbrev pub NoneHas : List BasicBlock → ℕ → Type 0
NoneHas bs id = (b : BasicBlock) → Memᴰ b bs → b.id ≡ id → ⊥

-- the last of the blocks bs that has an id
pub record LastBlock (bs : List BasicBlock) (id : ℕ) : Type 0 where
  pub front : List BasicBlock
  pub this : BasicBlock
  pub back : List BasicBlock
  pub is : bs ≡ front ++ (this ∷ back)
  pub has : this.id ≡ id
  pub last : NoneHas back id

-- the jump x of the emitted blocks bs in the code b: JA, which has no other way, or JNE, which also goes on to the next slot
pub record OnLast (c : Context) (bs : List BasicBlock) (b : List ℕ) (x : Jump) : Type 0 where
  pub block : LastBlock bs x.id
  pub form : (form_at b x.own ≡ Ja) ⊎ (form_at b x.own ≡ JneImm)
  pub there : target x.own (at b x.own).off ≡ pos (begins c block.front)
  pub nowhere_else : (q : ℕ) → Next b x.own q → (q ≡ begins c block.front) ⊎ ((form_at b x.own ≡ JneImm) × (q ≡ suc x.own))

-- the instruction at slot p of the code b jumps to slot q
pub record JumpsTo (b : List ℕ) (p q : ℕ) : Type 0 where
  pub jumps : (uses (form_at b p)).jumps ≡ true
  pub to : target p (at b p).off ≡ pos q

-- JA, or JNE, to the block with an id
abbrev pub JumpTo : Op → ℕ → Type 0
JumpTo o id = (o ≡ ja id) ⊎ (o ≡ jne id)

-- one of the jumps js stands at a slot and names an id
pub record Among (js : List Jump) (slot id : ℕ) : Type 0 where
  pub jump : Jump
  pub one : Memᴰ jump js
  pub own : jump.own ≡ slot
  pub names : jump.id ≡ id

-- slot p belongs to an instruction of one of the blocks bs, whose operations stand from `first` on among the operations l of all; its jump to q goes forward, no further than to the slot after them, and to no block
pub record OwnJump (c : Context) (bs : List BasicBlock) (l : List Op) (p q : ℕ) : Type 0 where
  pub block : BasicBlock
  pub emitted : Memᴰ block bs
  pub one : PlacedInstruction
  pub its : Memᴰ one block.instructions
  pub scratch : ℕ
  pub operations : List Op
  pub are : instruction c.frame scratch (c.condition one.instruction.result) one.instruction ≡ becomes operations
  pub first : ℕ
  pub stand : StandAt 0 l first operations
  pub from : first ≤ p
  pub below : p < first + slots_of operations
  pub forward : p < q
  pub inside : q ≤ first + slots_of operations
  pub no_block : (x : Start) → Memᴰ x (starts c bs) → x.slot ≡ q → ⊥

-- from −32,768 to 32,767
unfoldable pub InRange : ℤ → Type 0
InRange (pos n) = n ≤ 32767
InRange (negsuc n) = suc n ≤ 32768

-- the jump x has an emitted target, at a distance in that range
pub record Near (c : Context) (bs : List BasicBlock) (x : Jump) : Type 0 where
  pub block : LastBlock bs x.id
  pub near : InRange (distance (begins c block.front) x.own)

-- the jumps before x in patch order are near: where x is not, it is the first at fault
pub record FirstAtFault (c : Context) (bs : List BasicBlock) (x : Jump) : Type 0 where
  pub front : List Jump
  pub back : List Jump
  pub is : jumps c bs ≡ front ++ (x ∷ back)
  pub near : (y : Jump) → Memᴰ y front → Near c bs y
