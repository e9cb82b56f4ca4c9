-- What an instruction takes is the same in every frame that has a cell for each of its variables.
use mathlib.Core.Path.{◌≡◌, refl, sym, ap₂, ◌∙◌}
use mathlib.Core.Bool.{Bool, true, false}
use mathlib.Core.List.{List, [], ◌∷◌, Memᴰ}
use Prim.Native.Nat.{ℕ}
use lib.Dec.{eqb}
use lib.IntN.{ℤ}
use mir.Syntax.{w32}
use Rattle.wire.specs.Pick.{pick, either}
use Rattle.wire.specs.Le.{unsigned_at}
use Rattle.ir.specs.declared.BinaryOp.{BinaryOp}
use Rattle.ir.specs.declared.Operand.{Operand}
use Rattle.ir.specs.declared.Operand.TheVariants.{Var, Immediate}
use Rattle.ir.specs.declared.Opcode.{Opcode}
use Rattle.ir.specs.declared.Opcode.TheVariants as C
use Rattle.opcode.specs.Opcode.{opcode_in}
use Rattle.record.specs.Instruction.{fields_in}
use Rattle.insn.specs.declared.form.Form.{Form}
use Rattle.frame.specs.Cell.{Frame}
use Rattle.lower.specs.Op.{Lowered, insn, slots_of, ◌▸◌}
use Rattle.lower.specs.Operand.{move, add, on_cell, load, addr, keep}
use Rattle.lower.specs.Instruction.{on_first, on_two, on_three, on_none, operate, from_context, helper_call, opcode}
use Rattle.lower.specs.Payload.{operands_of, instruction_in}
use Rattle.lower.specs.Held.{map_in, held}
use Rattle.size.specs.Size.{every_cell, size_in}
use Rattle.size.specs.Celled.{Celled}
use Rattle.size.proofs.Takes.{joined, join}

-- ---- two that take the same

record Alike (x y : Lowered) : Type 0 where
  told : held x ≡ held y

alike : (x : Lowered) → Alike x x
alike x = record { told = refl }

infixl 4 ◌≈▸◌
◌≈▸◌ : {x x' y y' : Lowered} → Alike x x' → Alike y y' → Alike (x ▸ y) (x' ▸ y')
◌≈▸◌ {x} {x'} {y} {y'} a b = record { told = join x y ∙ ap₂ joined a.told b.told ∙ sym (join x' y') }

one_of : (t : Bool) {x x' y y' : Lowered} → Alike x x' → Alike y y' → Alike (pick t x y) (pick t x' y')
one_of true a b = a
one_of false a b = b

-- an instruction takes a slot
slot : (form : Form) (dst src : ℕ) (off off' imm imm' : ℤ) → Alike (insn form dst src off imm) (insn form dst src off' imm')
unfolding insn held map_in slots_of
slot form dst src off off' imm imm' = record { told = refl }

-- ---- operands by their count

module _ (l : List Operand) where
  by_first : {g h : Operand → Lowered} → ((a : Operand) → Memᴰ a l → Alike (g a) (h a)) → Alike (on_first l g) (on_first l h)
  unfolding on_first
  by_first {g} {h} e = go l e
    where
      go : (l : List Operand) → ((a : Operand) → Memᴰ a l → Alike (g a) (h a)) → Alike (on_first l g) (on_first l h)
      go [] e = alike _
      go (a ∷ l) e = e a (Memᴰ.head refl)

  by_two : {g h : Operand → Operand → Lowered} → ((a b : Operand) → Memᴰ a l → Memᴰ b l → Alike (g a b) (h a b)) → Alike (on_two l g) (on_two l h)
  unfolding on_two
  by_two {g} {h} e = go l e
    where
      go : (l : List Operand) → ((a b : Operand) → Memᴰ a l → Memᴰ b l → Alike (g a b) (h a b)) → Alike (on_two l g) (on_two l h)
      go [] e = alike _
      go (a ∷ []) e = alike _
      go (a ∷ b ∷ []) e = e a b (Memᴰ.head refl) (Memᴰ.tail (Memᴰ.head refl))
      go (a ∷ b ∷ c ∷ l) e = alike _

  by_three : {g h : Operand → Operand → Operand → Lowered}
      → ((a b c : Operand) → Memᴰ a l → Memᴰ b l → Memᴰ c l → Alike (g a b c) (h a b c)) → Alike (on_three l g) (on_three l h)
  unfolding on_three
  by_three {g} {h} e = go l e
    where
      go : (l : List Operand) → ((a b c : Operand) → Memᴰ a l → Memᴰ b l → Memᴰ c l → Alike (g a b c) (h a b c)) → Alike (on_three l g) (on_three l h)
      go [] e = alike _
      go (a ∷ []) e = alike _
      go (a ∷ b ∷ []) e = alike _
      go (a ∷ b ∷ c ∷ []) e = e a b c (Memᴰ.head refl) (Memᴰ.tail (Memᴰ.head refl)) (Memᴰ.tail (Memᴰ.tail (Memᴰ.head refl)))
      go (a ∷ b ∷ c ∷ d ∷ l) e = alike _

  by_none : {x y : Lowered} → Alike x y → Alike (on_none l x) (on_none l y)
  unfolding on_none
  by_none {x} {y} e = go l
    where
      go : (l : List Operand) → Alike (on_none l x) (on_none l y)
      go [] = e
      go (a ∷ l) = alike _

-- ---- a frame that has their cells

module _ (f : Frame) (result : ℕ) (l : List Operand) (c : Celled f result l) where
  same_keep : Alike (keep f result) (keep every_cell result)
  unfolding keep on_cell every_cell
  same_keep = rw c.kept.at (slot _ _ _ _ _ _ _)

  same_load : (r : ℕ) (a : Operand) → Memᴰ a l → Alike (load f r a) (load every_cell r a)
  unfolding load on_cell every_cell
  same_load r (Var v) m = rw (c.read v m).at (slot _ _ _ _ _ _ _)
  same_load r (Immediate z) m = alike _

  same_addr : (j k r : ℕ) (a : Operand) → Memᴰ a l → Alike (addr f j r a) (addr every_cell k r a)
  unfolding addr on_cell every_cell move add
  same_addr j k r (Var v) m = rw (c.read v m).at (alike _ ≈▸ slot _ _ _ _ _ _ _)
  same_addr j k r (Immediate z) m = alike _ ≈▸ slot _ _ _ _ _ _ _ ≈▸ alike _ ≈▸ slot _ _ _ _ _ _ _

  same_operate : (op : BinaryOp) (a : Operand) → Memᴰ a l → Alike (operate f op a) (operate every_cell op a)
  unfolding operate
  same_operate op (Var v) m = same_load 1 (Var v) m ≈▸ alike _
  same_operate op (Immediate z) m = alike _

  same_helper : (id : ℕ) → Alike (helper_call f result id l) (helper_call every_cell result id l)
  unfolding helper_call
  same_helper id =
      one_of (either (either (eqb id 5) (eqb id 14)) (either (eqb id 15) (eqb id 35))) (by_none l (alike _ ≈▸ same_keep))
      (one_of (eqb id 16) (alike _)
      (one_of (either (eqb id 114) (eqb id 115)) (by_three l (λ a b d m n k. same_load 1 a m ≈▸ same_load 2 b n ≈▸ same_load 3 d k ≈▸ alike _ ≈▸ same_keep))
      (alike _)))

  same : (j : ℕ) (condition : Bool) (o : Opcode) → Alike (opcode f j condition result o l) (opcode every_cell 0 condition result o l)
  unfolding opcode from_context
  same j condition (C.Binary op) = by_two l (λ a b m n. same_load 0 a m ≈▸ same_operate op b n ≈▸ same_keep)
  same j condition C.LoadKey = by_first l (λ a m. same_load 1 a m ≈▸ alike _ ≈▸ same_keep)
  same j condition (C.Store size) = by_two l (λ a b m n. same_load 1 a m ≈▸ same_load 2 b n ≈▸ alike _)
  same j condition (C.LoadCtx offset size) = alike _ ≈▸ same_keep
  same j condition (C.LoadPacket offset size) = alike _ ≈▸ same_keep
  same j condition (C.HelperCall id) = same_helper id
  same j condition (C.CallMap m) = by_first l (λ a n. alike _ ≈▸ same_addr j 0 2 a n ≈▸ alike _ ≈▸ same_keep)
  same j condition (C.UpdateMap m) = by_two l (λ a b n k. alike _ ≈▸ same_addr j 0 2 a n ≈▸ same_addr _ _ 3 b k ≈▸ alike _ ≈▸ alike _ ≈▸ same_keep)
  same j condition C.NullCheck = by_first l (λ a m. same_load 0 a m ≈▸ alike _ ≈▸ same_keep)
  same j condition (C.RingBufReserve m size) = alike _ ≈▸ alike _ ≈▸ alike _ ≈▸ alike _ ≈▸ same_keep
  same j condition (C.RingBufSubmit m) = by_first l (λ a m. same_load 1 a m ≈▸ alike _ ≈▸ alike _ ≈▸ alike _ ≈▸ same_keep)
  same j condition (C.CopyCtxToMem offset size) = by_first l (λ a m. same_load 1 a m ≈▸ alike _ ≈▸ alike _ ≈▸ alike _ ≈▸ alike _ ≈▸ same_keep)

pub same_size : (f : Frame) (j : ℕ) (condition : Bool) (result : ℕ) (o : Opcode) (l : List Operand) → Celled f result l
    → held (opcode f j condition result o l) ≡ held (opcode every_cell 0 condition result o l)
same_size f j condition result o l c = (same f result l c j condition o).told

-- the instruction in a payload
pub same_size_in : (f : Frame) (j : ℕ) (condition : Bool) (p : List ℕ) → Celled f (unsigned_at w32 p 0) (operands_of p) → held (instruction_in f j condition p) ≡ size_in condition p
unfolding size_in instruction_in
same_size_in f j condition p c = same_size f j condition (unsigned_at w32 p 0) (opcode_in (fields_in p 0)) (operands_of p) c
