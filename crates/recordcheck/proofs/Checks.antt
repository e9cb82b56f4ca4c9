-- What a payload's test says: it is the test of its parts, and by it the record inside a block goes on or is broken.
use mathlib.Core.Path.{◌≡◌, refl, sym}
use mathlib.Core.Bool.{Bool, true, false}
use mathlib.Core.List.{List}
use Prim.Native.Nat.{ℕ, ◌+◌}
use native.Mathlib.Omega.{arith}
use borrow.Author.Tests.{eqb-true, leb-true, leb-false, eq-eqb, ne_eqb, le-leb}
use lib.Dec.{eqb, leb}
use mir.Syntax.{w32}
use Rattle.wire.specs.Pick.{pick, both}
use Rattle.wire.specs.Le.{unsigned_at}
use Rattle.ir.specs.declared.Terminator.{Terminator}
use Rattle.opcode.specs.Opcode.{is_opcode}
use Rattle.operand.specs.Operand.{is_operand, are_operands}
use Rattle.record.specs.Frame.{length_at, kind_at, whole_at, next_at}
use Rattle.record.specs.Instruction.{joined}
use Rattle.record.specs.Terminator.{returning, branching}
use Rattle.record.specs.Payload.{of_instruction, of_terminator, payload_at, kind_of}
use Rattle.record.specs.Record.{kind_due, not_due, broken, on_payload, read_record}
use Rattle.record.specs.declared.Due.TheVariants as Du
use Rattle.record.specs.declared.Fault.TheVariants.{Cut, NotDue, Broken}
use Rattle.record.specs.declared.Record.TheVariants as R
use Rattle.recordcheck.specs.Checked.{is_instruction, is_terminator, checked_of, checked_by}
use Rattle.ir.specs.declared.Instruction.{Instruction}
use Rattle.ir.specs.declared.Opcode.{Opcode}
use Rattle.ir.specs.declared.Operand.{Operand}
use Rattle.ir.specs.declared.operands.Operands.{Operands}
use Rattle.record.specs.declared.Fault.{Fault}
use Rattle.record.specs.declared.Record.{Record}
use Rattle.std.specs.Prelude.{Err, None, Ok, Option, Result, Some}

-- ---- the parts

pub ok_joined : (result : ℕ) (o : Option Opcode) (l : Option Operands) → is_instruction (joined result o l) ≡ both (is_opcode o) (are_operands l)
unfolding is_instruction joined is_opcode are_operands
ok_joined result (Some o) (Some l) = refl
ok_joined result (Some o) None = refl
ok_joined result None (Some l) = refl
ok_joined result None None = refl

pub ok_returning : (x : Option Operand) → is_terminator (returning x) ≡ is_operand x
unfolding is_terminator returning is_operand
ok_returning (Some o) = refl
ok_returning None = refl

pub ok_branching : (x : Option Operand) (to other : ℕ) → is_terminator (branching x to other) ≡ is_operand x
unfolding is_terminator branching is_operand
ok_branching (Some o) to other = refl
ok_branching None to other = refl

pub ok_jumping : (t : Bool) (u : Terminator) → is_terminator (pick t (Some u) None) ≡ t
unfolding is_terminator
ok_jumping true u = refl
ok_jumping false u = refl

-- ---- a record inside a block

module _ (at next : ℕ) where
  pub good_instruction : (x : Option Instruction) → is_instruction x ≡ true → checked_of (on_payload Du.Inside at next (of_instruction x)) ≡ Ok (4, next)
  unfolding is_instruction of_instruction on_payload checked_of kind_of
  good_instruction (Some i) h = refl
  good_instruction None h = let z : ◌≡◌ {A = ℕ} 0 1 = cc in absurd (omega arith)

  pub broken_instruction : (x : Option Instruction) → is_instruction x ≡ false → checked_of (on_payload Du.Inside at next (of_instruction x)) ≡ Err (Broken at)
  unfolding is_instruction of_instruction on_payload checked_of broken
  broken_instruction (Some i) h = let z : ◌≡◌ {A = ℕ} 0 1 = cc in absurd (omega arith)
  broken_instruction None h = refl

  pub good_terminator : (x : Option Terminator) → is_terminator x ≡ true → checked_of (on_payload Du.Inside at next (of_terminator x)) ≡ Ok (5, next)
  unfolding is_terminator of_terminator on_payload checked_of kind_of
  good_terminator (Some t) h = refl
  good_terminator None h = let z : ◌≡◌ {A = ℕ} 0 1 = cc in absurd (omega arith)

  pub broken_terminator : (x : Option Terminator) → is_terminator x ≡ false → checked_of (on_payload Du.Inside at next (of_terminator x)) ≡ Err (Broken at)
  unfolding is_terminator of_terminator on_payload checked_of broken
  broken_terminator (Some t) h = let z : ◌≡◌ {A = ℕ} 0 1 = cc in absurd (omega arith)
  broken_terminator None h = refl

-- ---- a map, a block

module _ (at len next : ℕ) where
  map_by : (start : ℕ) (t : Bool) → pick t (Ok (2, next)) (Err (Broken at)) ≡ checked_of (on_payload Du.Map at next (pick t (Some (R.Map start len)) None))
  unfolding on_payload checked_of kind_of broken
  map_by start true = refl
  map_by start false = refl

  block_by_lem : (id : ℕ) (t : Bool) → pick t (Ok (3, next)) (Err (Broken at)) ≡ checked_of (on_payload Du.Block at next (pick t (Some (R.Block id)) None))
  unfolding on_payload checked_of kind_of broken
  block_by_lem id true = refl
  block_by_lem id false = refl

exactly : (n k : ℕ) → both (leb n k) (leb k n) ≡ eqb k n
exactly n k = go (leb n k) (leb k n) refl refl
  where
    go : (t u : Bool) → leb n k ≡ t → leb k n ≡ u → both t u ≡ eqb k n
    go true true p q = sym (eq-eqb k n (omega (arith, leb-true n k p, leb-true k n q)))
    go true false p q = sym (ne_eqb k n (λ e. omega (arith, leb-false k n q)))
    go false u p q = sym (ne_eqb k n (λ e. omega (arith, leb-false n k p)))

-- by the tests that come before that of the payload
by_tests : (at : ℕ) (w t : Bool) (x : Result (ℕ × ℕ) Fault) (y : Result (Record × ℕ) Fault) → (t ≡ true → x ≡ checked_of y) → pick w (pick t x (Err (NotDue at))) (Err (Cut at)) ≡ checked_of (pick w (pick t y (Err (NotDue at))) (Err (Cut at)))
unfolding checked_of
by_tests at true true x y h = h refl
by_tests at true false x y h = refl
by_tests at false t x y h = refl

module _ (b : List ℕ) (at maps : ℕ) where
  map_kind : kind_at b at ≡ 2 → pick (both (leb 0 (length_at b at)) (leb (length_at b at) 64)) (Ok (2, next_at b at)) (Err (Broken at)) ≡ checked_of (on_payload Du.Map at (next_at b at) (payload_at (kind_at b at) b (at + 4) (length_at b at) maps))
  unfolding payload_at
  map_kind k = rw (k, le-leb 0 (length_at b at) (omega arith)) (map_by at (length_at b at) (next_at b at) (at + 4) (leb (length_at b at) 64))

  block_kind : kind_at b at ≡ 3 → pick (both (leb 4 (length_at b at)) (leb (length_at b at) 4)) (Ok (3, next_at b at)) (Err (Broken at)) ≡ checked_of (on_payload Du.Block at (next_at b at) (payload_at (kind_at b at) b (at + 4) (length_at b at) maps))
  unfolding payload_at
  block_kind k = rw (k, exactly 4 (length_at b at)) (block_by_lem at (length_at b at) (next_at b at) (unsigned_at w32 b (at + 4)) (eqb (length_at b at) 4))

  pub map_checked : checked_by b at 2 0 64 ≡ checked_of (read_record b at Du.Map maps)
  unfolding checked_by read_record kind_due not_due
  map_checked = by_tests at (whole_at b at) (eqb (kind_at b at) 2) _ _ (λ e. map_kind (eqb-true _ _ e))

  pub block_checked : checked_by b at 3 4 4 ≡ checked_of (read_record b at Du.Block maps)
  unfolding checked_by read_record kind_due not_due
  block_checked = by_tests at (whole_at b at) (eqb (kind_at b at) 3) _ _ (λ e. block_kind (eqb-true _ _ e))
