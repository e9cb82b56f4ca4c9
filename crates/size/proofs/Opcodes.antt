-- What each opcode takes.
use mathlib.Core.Path.{◌≡◌, refl, sym, ap, ◌∙◌}
use mathlib.Core.Bool.{Bool, true, false}
use mathlib.Core.Logic.{◌⊎◌, inl, inr}
use mathlib.Core.List.{List}
use Prim.Native.Nat.{ℕ, ◌+◌}
use native.Mathlib.Omega.{arith}
use borrow.Author.Tests.{eqb-true, eqb-false, ne_eqb}
use lib.Dec.{eqb}
use lib.IntN.{ℤ, pos}
use mir.Syntax.{w32}
use Rattle.wire.specs.Pick.{pick, either}
use Rattle.wire.specs.Le.{byte_at, unsigned_at}
use Rattle.ir.specs.declared.BinaryOp.{BinaryOp}
use Rattle.ir.specs.declared.Operand.{Operand}
use Rattle.ir.specs.declared.Opcode.TheVariants as C
use Rattle.opcode.specs.Opcode.{opcode_in}
use Rattle.opcode.proofs.Opcodes.{else_load_key}
use Rattle.operand.specs.Operand.{operand_in, operands_in}
use Rattle.record.specs.Instruction.{fields_in}
use Rattle.insn.specs.Rfc.{LDX, STX}
use Rattle.insn.specs.Form.{mem_code}
use Rattle.lower.specs.Op.{Lowered, refused, ◌▸◌}
use Rattle.lower.specs.Operand.{call, load, keep}
use Rattle.lower.specs.Instruction.{on_first, on_two, on_three, on_none, from_context, helper_call, opcode}
use Rattle.lower.specs.Payload.{operands_of}
use Rattle.lower.specs.Held.{held}
use Rattle.lower.specs.declared.Reason.TheVariants as Re
use Rattle.lower.proofs.Counts.{first_is, no_first, two_are, not_two, three_are, not_three, none_are, some_are}
use Rattle.size.specs.Size.{every_cell, size_by}
use Rattle.size.specs.Part.{first_of, takes, of_constant, of_operand, address_slots, operate_slots, of_first, of_none, of_three}
use Rattle.size.proofs.Takes.{Takes, ◌▹◌, ◌▹fine◌, one, constant_takes, zero_takes, load_takes, keep_takes, call_takes, move_takes, add_takes, map_takes, addr_takes, operate_takes, null_takes, of_size, store_takes, of_offset, context_takes}
use Rattle.lower.specs.declared.Reason.{Reason}
use Rattle.std.specs.Prelude.{Err, None, Ok, Option, Result, Some, ⊤}

-- the slots of x, added up
resized : {x : Lowered} {o : Result ⊤ Reason} {m : Option ℕ} {n k : ℕ} → Takes x o m n → n ≡ k → held x ≡ takes o m k
resized {x} {o} {m} t e = t.told ∙ ap (takes o m) e

module _ (p : List ℕ) where
  -- ---- the count of operands

  module _ (f : Operand → Lowered) (n : ℕ) (e : n ≡ byte_at p 6) where
    pub no_first_refused : n ≡ 0 → Err (Re.Count 0) ≡ held (on_first (operands_of p) f)
    unfolding operands_of held
    no_first_refused h = ap held (no_first p 16 (byte_at p 6) f (sym e ∙ h))

    pub first_held : (n ≡ 0 → ⊥) → held (on_first (operands_of p) f) ≡ held (f (operand_in p 16))
    unfolding operands_of
    first_held h = ap held (sym (first_is p 16 (byte_at p 6) f refl (λ (z : byte_at p 6 ≡ 0). h (e ∙ z))))

  module _ (f : Operand → Operand → Lowered) (n : ℕ) (e : n ≡ byte_at p 6) where
    pub not_two_refused : (n ≡ 2 → ⊥) → Err (Re.Count n) ≡ held (on_two (operands_of p) f)
    unfolding operands_of held
    not_two_refused h =
        ap (λ (k : ℕ). held (refused (Re.Count k))) e ∙ ap held (not_two p 16 (byte_at p 6) f (λ (z : byte_at p 6 ≡ 2). h (e ∙ z)))

    pub two_held : n ≡ 2 → held (on_two (operands_of p) f) ≡ held (f (operand_in p 16) (operand_in p 25))
    unfolding operands_of
    two_held h = ap held (sym (two_are p 16 (byte_at p 6) f refl refl (sym e ∙ h)))

  -- ---- the first operand alone

  by_first : (f : Operand → Lowered) (k : ℕ) → ((a : Operand) → Takes (f a) (of_operand a) None k) → of_first p k ≡ held (on_first (operands_of p) f)
  unfolding of_first operands_of held
  by_first f k h = go (eqb (byte_at p 6) 0) refl
    where
      go : (t : Bool) → eqb (byte_at p 6) 0 ≡ t → pick t (Err (Re.Count 0)) (takes (of_operand (operand_in p 16)) None k) ≡ held (on_first (operands_in p 16 (byte_at p 6)) f)
      go true e = ap held (no_first p 16 (byte_at p 6) f (eqb-true (byte_at p 6) 0 e))
      go false e = sym (ap held (sym (first_is p 16 (byte_at p 6) f refl (eqb-false (byte_at p 6) 0 e))) ∙ (h (operand_in p 16)).told)

  pub load_key : (t : Bool) → of_first p 3 ≡ size_by t C.LoadKey p
  unfolding size_by opcode
  load_key t = by_first _ 3 (λ a. load_takes 1 a ▹fine one _ _ _ _ _ ▹fine keep_takes _)

  pub submit : (t : Bool) (m : ℕ) → of_first p 5 ≡ size_by t (C.RingBufSubmit m) p
  unfolding size_by opcode
  submit t m = by_first _ 5 (λ a. load_takes 1 a ▹fine zero_takes 2 ▹fine call_takes 132 ▹fine zero_takes 0 ▹fine keep_takes _)

  pub null_check_lem : (t : Bool) → of_first p (pick t 6 7) ≡ size_by t C.NullCheck p
  unfolding size_by opcode
  null_check_lem true = by_first _ 6 (λ a. load_takes 0 a ▹fine null_takes true ▹fine keep_takes _)
  null_check_lem false = by_first _ 7 (λ a. load_takes 0 a ▹fine null_takes false ▹fine keep_takes _)

  -- ---- helpers

  by_none : (id result : ℕ) → of_none p ≡ held (on_none (operands_of p) (call id ▸ keep every_cell result))
  unfolding of_none operands_of held
  by_none id result = go (eqb (byte_at p 6) 0) refl
    where
      go : (t : Bool) → eqb (byte_at p 6) 0 ≡ t
          → pick t (takes (Ok tt) None 2) (Err (Re.Count (byte_at p 6))) ≡ held (on_none (operands_in p 16 (byte_at p 6)) (call id ▸ keep every_cell result))
      go true e = sym (ap held (sym (none_are p 16 (byte_at p 6) _ (eqb-true (byte_at p 6) 0 e))) ∙ (call_takes id ▹fine keep_takes result).told)
      go false e = ap held (some_are p 16 (byte_at p 6) _ (eqb-false (byte_at p 6) 0 e))

  by_three : (id result : ℕ) → of_three p ≡ held (on_three (operands_of p) (λ a b c. load every_cell 1 a ▸ load every_cell 2 b ▸ load every_cell 3 c ▸ call id ▸ keep every_cell result))
  unfolding of_three operands_of held
  by_three id result = go (eqb (byte_at p 6) 3) refl
    where
      go : (t : Bool) → eqb (byte_at p 6) 3 ≡ t
          → pick t (takes (first_of (first_of (of_operand (operand_in p 16)) (of_operand (operand_in p 25))) (of_operand (operand_in p 34))) None 5) (Err (Re.Count (byte_at p 6)))
          ≡ held (on_three (operands_in p 16 (byte_at p 6)) (λ a b c. load every_cell 1 a ▸ load every_cell 2 b ▸ load every_cell 3 c ▸ call id ▸ keep every_cell result))
      go true e = sym (ap held (sym (three_are p 16 (byte_at p 6) _ refl refl refl (eqb-true (byte_at p 6) 3 e))) ∙ (load_takes 1 _ ▹ load_takes 2 _ ▹ load_takes 3 _ ▹fine call_takes id ▹fine keep_takes result).told)
      go false e = ap held (not_three p 16 (byte_at p 6) _ (eqb-false (byte_at p 6) 3 e))

  module _ (id : ℕ) where
    pub helper_none : either (either (eqb id 5) (eqb id 14)) (either (eqb id 15) (eqb id 35)) ≡ true → of_none p ≡ size_by false (C.HelperCall id) p
    unfolding size_by opcode helper_call
    helper_none e = rw e (by_none id (unsigned_at w32 p 0))

    pub helper_three : (id ≡ 114) ⊎ (id ≡ 115) → of_three p ≡ size_by false (C.HelperCall id) p
    unfolding size_by opcode helper_call
    helper_three (inl e) = rw e (by_three 114 (unsigned_at w32 p 0))
    helper_three (inr e) = rw e (by_three 115 (unsigned_at w32 p 0))

    pub helper_16 : id ≡ 16 → Err Re.Helper16 ≡ size_by false (C.HelperCall id) p
    unfolding size_by opcode helper_call held
    helper_16 e = rw e refl

    pub helper_other : (id ≡ 5 → ⊥) → (id ≡ 14 → ⊥) → (id ≡ 15 → ⊥) → (id ≡ 35 → ⊥) → (id ≡ 16 → ⊥) → (id ≡ 114 → ⊥) → (id ≡ 115 → ⊥)
        → Err (Re.Helper id) ≡ size_by false (C.HelperCall id) p
    unfolding size_by opcode helper_call held
    helper_other a b c d e f g = rw (ne_eqb id 5 a, ne_eqb id 14 b, ne_eqb id 15 c, ne_eqb id 35 d, ne_eqb id 16 e, ne_eqb id 114 f, ne_eqb id 115 g) refl

  -- ---- alu

  module _ (n : ℕ) (e : n ≡ byte_at p 6) (h : n ≡ 2) where
    pub binary : (op : BinaryOp)
        → takes (first_of (of_operand (operand_in p 16)) (of_operand (operand_in p 25))) None (2 + operate_slots (operand_in p 25)) ≡ size_by false (C.Binary op) p
    unfolding size_by opcode
    binary op =
        let t = load_takes 0 (operand_in p 16) ▹ operate_takes op (operand_in p 25) ▹fine keep_takes (unsigned_at w32 p 0) in
        sym (two_held _ n e h ∙ resized t (omega arith))

    -- ---- memory

    pub store : (size : ℕ)
        → takes (first_of (first_of (of_operand (operand_in p 16)) (of_operand (operand_in p 25))) (of_size (mem_code STX size) (Re.StoreSize size))) None 3 ≡ size_by false (C.Store size) p
    unfolding size_by opcode
    store size =
        let t = load_takes 1 (operand_in p 16) ▹ load_takes 2 (operand_in p 25) ▹ store_takes (mem_code STX size) (Re.StoreSize size) in
        sym (two_held _ n e h ∙ t.told)

    -- ---- maps

    pub update_map : (m : ℕ)
        → takes (first_of (of_operand (operand_in p 16)) (of_operand (operand_in p 25))) (Some m) (5 + address_slots (operand_in p 16) + address_slots (operand_in p 25)) ≡ size_by false (C.UpdateMap m) p
    unfolding size_by opcode first_of
    update_map m =
        let t = map_takes m ▹ addr_takes _ 2 (operand_in p 16) ▹ addr_takes _ 3 (operand_in p 25) ▹fine zero_takes 4 ▹fine call_takes 2 ▹fine keep_takes (unsigned_at w32 p 0) in
        sym (two_held _ n e h ∙ resized t (omega arith))

  pub from_context_lem : (offset : ℤ) (size : ℕ) → takes (of_offset offset (mem_code LDX size) (Re.LoadSize size)) None 2 ≡ size_by false (C.LoadCtx offset size) p
  unfolding size_by opcode from_context
  from_context_lem offset size = sym (context_takes offset (mem_code LDX size) (Re.LoadSize size) ▹fine keep_takes (unsigned_at w32 p 0)).told

  pub reserve : (m size : ℕ) → takes (of_constant (pos size)) (Some m) 6 ≡ size_by false (C.RingBufReserve m size) p
  unfolding size_by opcode first_of
  reserve m size = sym (map_takes m ▹ constant_takes 2 (pos size) ▹fine zero_takes 3 ▹fine call_takes 131 ▹fine keep_takes (unsigned_at w32 p 0)).told

  module _ (n : ℕ) (e : n ≡ byte_at p 6) (h : n ≡ 0 → ⊥) where
    pub copy_context : (offset : ℤ) (size : ℕ)
        → takes (first_of (of_operand (operand_in p 16)) (of_constant (pos size))) None 6 ≡ size_by false (C.CopyCtxToMem offset size) p
    unfolding size_by opcode
    copy_context offset size =
        let t = load_takes 1 (operand_in p 16) ▹ constant_takes 2 (pos size) ▹fine move_takes 3 6 ▹fine add_takes 3 offset ▹fine call_takes 113 ▹fine keep_takes (unsigned_at w32 p 0) in
        sym (first_held _ n e h ∙ t.told)

    pub call_map : (m : ℕ) → takes (of_operand (operand_in p 16)) (Some m) (4 + address_slots (operand_in p 16)) ≡ size_by false (C.CallMap m) p
    unfolding size_by opcode first_of
    call_map m =
        let t = map_takes m ▹ addr_takes _ 2 (operand_in p 16) ▹fine call_takes 1 ▹fine keep_takes (unsigned_at w32 p 0) in
        sym (first_held _ n e h ∙ resized t (omega arith))

  -- ---- by the code

  -- a code that is no opcode's is LoadKey's
  pub other_code : (n : ℕ) → n ≡ byte_at p 4 → (n ≡ 1 → ⊥) → (n ≡ 2 → ⊥) → (n ≡ 3 → ⊥) → (n ≡ 4 → ⊥) → (n ≡ 5 → ⊥) → (n ≡ 6 → ⊥) → (n ≡ 7 → ⊥) → (n ≡ 8 → ⊥) → (n ≡ 9 → ⊥)
      → (n ≡ 10 → ⊥) → (n ≡ 11 → ⊥) → (n ≡ 12 → ⊥) → opcode_in (fields_in p 0) ≡ C.LoadKey
  unfolding fields_in
  other_code n z a b c d e f g h i j k l = else_load_key (fields_in p 0) z a c d e f g h i j k l
