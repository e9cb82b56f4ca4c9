-- The table of opcodes and its reading back undo each other; what the tests of the fields come to.
use mathlib.Core.Path.{◌≡◌, refl, sym, ap, ◌∙◌}
use mathlib.Core.Bool.{Bool, true, false, true≢false}
use Prim.Native.Nat.{ℕ, zero, suc, ◌^◌, ◌<◌, ◌≤◌}
use native.Mathlib.Omega.{arith}
use borrow.Author.Tests.{eq-eqb, ne_eqb, eqb-true, eqb-false, ltb-true, lt-ltb, le-ltb, le-leb}
use lib.Dec.{eqb, ltb}
use lib.IntN.{ℤ, pos, negsuc}
use lib.ListN.{get_or, get_or-eq_default}
use lib.Signed.{le_z}
use mir.Syntax.{w32}
use mir.Val.{SFits, to_z}
use mir.ValLaws.{to_z_pos}
use Rattle.wire.specs.Pick.{pick, both}
use Rattle.ir.specs.declared.BinaryOp.{BinaryOp}
use Rattle.ir.specs.declared.BinaryOp.TheVariants.{Add, Sub, Mul, Div, Mod, Shl, Shr}
use Rattle.ir.specs.declared.Opcode.{Opcode}
use Rattle.ir.specs.declared.Opcode.TheVariants as C
use Rattle.opcode.specs.Opcode.{operations, small_of, row, fields_of, map_of, opcodes, opcode_in, map_ok, same_number, same_fields, opcode_of}
use Rattle.opcode.specs.declared.Fields.{Fields}
use Rattle.std.specs.Prelude.{None, Some}

-- ---- tests

pub both_true : (x y : Bool) → both x y ≡ true → (x ≡ true) × (y ≡ true)
both_true true y e = (refl, e)
both_true false y e = let z : ◌≡◌ {A = ℕ} 0 1 = cc in absurd (omega arith)

pub itself : (n : ℕ) → eqb n n ≡ true
itself n = eq-eqb n n refl

pub same_itself : (z : ℤ) → same_number z z ≡ true
unfolding same_number
same_itself (pos n) = itself n
same_itself (negsuc n) = itself n

same_number_lem : (y z : ℤ) → same_number y z ≡ true → y ≡ z
unfolding same_number
same_number_lem (pos m) (pos n) e = ap pos (eqb-true m n e)
same_number_lem (pos m) (negsuc n) e = absurd (true≢false (sym e))
same_number_lem (negsuc m) (pos n) e = absurd (true≢false (sym e))
same_number_lem (negsuc m) (negsuc n) e = ap negsuc (eqb-true m n e)

same_fields_itself : (f : Fields) → same_fields f f ≡ true
unfolding same_fields
same_fields_itself f = simp (itself, same_itself)

made : (f : Fields) {code small number : ℕ} {offset : ℤ} → code ≡ f.code → small ≡ f.small → offset ≡ f.offset → number ≡ f.number → row code small offset number ≡ f
made f p q r s = rw (p, q, r, s)

same_fields_lem : (f g : Fields) → same_fields f g ≡ true → g ≡ f
unfolding same_fields
same_fields_lem f g e =
    let code = both_true _ _ e in
    let small = both_true _ _ code.1 in
    let offset = both_true _ _ small.1 in
    sym (made g (eqb-true _ _ code.0) (eqb-true _ _ small.0) (same_number_lem _ _ offset.0) (eqb-true _ _ offset.1))

-- ---- operations

-- a small is that of its operation again where it is below 7
pub small_again : (n : ℕ) → eqb n (small_of (get_or operations n Add)) ≡ ltb n 7
unfolding small_of operations
small_again zero = refl
small_again (suc zero) = refl
small_again (suc (suc zero)) = refl
small_again (suc (suc (suc zero))) = refl
small_again (suc (suc (suc (suc zero)))) = refl
small_again (suc (suc (suc (suc (suc zero))))) = refl
small_again (suc (suc (suc (suc (suc (suc zero)))))) = refl
small_again (suc (suc (suc (suc (suc (suc (suc n))))))) =
    ne_eqb (suc (suc (suc (suc (suc (suc (suc n))))))) 0 (λ e. omega arith) ∙ sym (le-ltb (suc (suc (suc (suc (suc (suc (suc n))))))) 7 (omega arith))

-- ---- a map in offset

-- a number that is a map's is that of the map again
pub again : (z : ℤ) → SFits w32 z → le_z (pos 0) z ≡ same_number z (to_z w32 (map_of z))
unfolding same_number map_of
again (pos m) g = rw (to_z_pos w32 m g.sfits, itself m) (le-leb 0 m (omega arith))
again (negsuc m) g = refl

-- ---- by the code

above : {n : ℕ} (k : ℕ) → k ≤ n → (n ≡ k → ⊥) → suc k ≤ n
above k h e = omega arith

module _ (f : Fields) where
  by_code_0 : f.code ≡ 0 → opcode_in f ≡ C.LoadKey
  unfolding opcode_in
  by_code_0 h = rw h

  by_code_2 : f.code ≡ 2 → opcode_in f ≡ C.LoadKey
  unfolding opcode_in
  by_code_2 h = rw h

  past : 13 ≤ f.code → opcode_in f ≡ C.LoadKey
  unfolding opcode_in
  past h = get_or-eq_default (opcodes f) C.LoadKey {n = f.code} h

  -- a code that is no opcode's is taken as LoadKey's
  pub else_load_key : {n : ℕ} → n ≡ f.code → (n ≡ 1 → ⊥) → (n ≡ 3 → ⊥) → (n ≡ 4 → ⊥) → (n ≡ 5 → ⊥) → (n ≡ 6 → ⊥) → (n ≡ 7 → ⊥) → (n ≡ 8 → ⊥) → (n ≡ 9 → ⊥) → (n ≡ 10 → ⊥) → (n ≡ 11 → ⊥) → (n ≡ 12 → ⊥)
      → opcode_in f ≡ C.LoadKey
  else_load_key {n} e n1 n3 n4 n5 n6 n7 n8 n9 n10 n11 n12 = go (eqb n 0) (eqb n 2) refl refl
    where
      go : (t u : Bool) → eqb n 0 ≡ t → eqb n 2 ≡ u → opcode_in f ≡ C.LoadKey
      go true u p q = by_code_0 (sym e ∙ eqb-true n 0 p)
      go false true p q = by_code_2 (sym e ∙ eqb-true n 2 q)
      go false false p q =
          let four = above 3 (above 2 (above 1 (above {n = n} 0 (omega arith) (eqb-false n 0 p)) n1) (eqb-false n 2 q)) n3 in
          let nine = above 8 (above 7 (above 6 (above 5 (above 4 four n4) n5) n6) n7) n8 in
          past (rw e at (above 12 (above 11 (above 10 (above 9 nine n9) n10) n11) n12))

-- ---- the table and its reading back undo each other

operation_back : (op : BinaryOp) → get_or operations (small_of op) Add ≡ op
unfolding operations small_of
operation_back Add = refl
operation_back Sub = refl
operation_back Mul = refl
operation_back Div = refl
operation_back Mod = refl
operation_back Shl = refl
operation_back Shr = refl

map_back : (m : ℕ) → m < 2 ^ 31 → map_of (to_z w32 m) ≡ m
unfolding map_of
map_back m h = rw (to_z_pos w32 m h)

-- an opcode whose map, if it has one, is a number that offset holds
pub opcode_back : (o : Opcode) → map_ok (2 ^ 31) o ≡ true → opcode_in (fields_of o) ≡ o
unfolding opcode_in fields_of map_ok
opcode_back (C.HelperCall id) e = refl
opcode_back C.LoadKey e = refl
opcode_back (C.Store size) e = refl
opcode_back (C.LoadCtx offset size) e = refl
opcode_back (C.LoadPacket offset size) e = refl
opcode_back (C.CopyCtxToMem offset size) e = refl
opcode_back C.NullCheck e = refl
opcode_back (C.Binary op) e = rw (operation_back op)
opcode_back (C.CallMap map) e = refl
opcode_back (C.UpdateMap map) e = refl
opcode_back (C.RingBufReserve map size) e = rw (map_back map (ltb-true map (2 ^ 31) e))
opcode_back (C.RingBufSubmit map) e = refl

-- a map of few is one of more
module _ {few more : ℕ} (h : few ≤ more) where
  below : (m : ℕ) → ltb m few ≡ true → ltb m more ≡ true
  below m e = lt-ltb m more (omega (arith, ltb-true m few e))

  pub map_more : (o : Opcode) → map_ok few o ≡ true → map_ok more o ≡ true
  unfolding map_ok
  map_more (C.HelperCall id) e = refl
  map_more C.LoadKey e = refl
  map_more (C.Store size) e = refl
  map_more (C.LoadCtx offset size) e = refl
  map_more (C.LoadPacket offset size) e = refl
  map_more (C.CopyCtxToMem offset size) e = refl
  map_more C.NullCheck e = refl
  map_more (C.Binary op) e = refl
  map_more (C.CallMap map) e = below map e
  map_more (C.UpdateMap map) e = below map e
  map_more (C.RingBufReserve map size) e = below map e
  map_more (C.RingBufSubmit map) e = below map e

-- from its fields an opcode is read
pub opcode_written : (maps : ℕ) (o : Opcode) → maps ≤ 2 ^ 31 → map_ok maps o ≡ true → opcode_of (fields_of o) maps ≡ Some o
unfolding opcode_of
opcode_written maps o h e = rw (opcode_back o (map_more h o e), same_fields_itself (fields_of o), e)

-- ---- what is read

module _ (f : Fields) (maps : ℕ) where
  -- an opcode that was read is that of the fields, has those fields, and a map that there is
  pub record Has (o : Opcode) : Type 0 where
    pub is : opcode_in f ≡ o
    pub fields : fields_of o ≡ f
    pub map : map_ok maps o ≡ true

  pub opcode_has : (o : Opcode) → opcode_of f maps ≡ Some o → Has o
  unfolding opcode_of
  opcode_has o e = go (same_fields f (fields_of (opcode_in f))) (map_ok maps (opcode_in f)) refl refl e
    where
      go : (t u : Bool) → same_fields f (fields_of (opcode_in f)) ≡ t → map_ok maps (opcode_in f) ≡ u → pick (both t u) (Some (opcode_in f)) None ≡ Some o → Has o
      go true true p q e = let i : opcode_in f ≡ o = cc in record { is = i; fields = rw i at (same_fields_lem f (fields_of (opcode_in f)) p); map = rw i at q }
      go true false p q e = let z : ◌≡◌ {A = ℕ} 0 1 = cc in absurd (omega arith)
      go false u p q e = let z : ◌≡◌ {A = ℕ} 0 1 = cc in absurd (omega arith)

  pub opcode_read : (o : Opcode) → opcode_of f maps ≡ Some o → opcode_in f ≡ o
  opcode_read o e = (opcode_has o e).is
