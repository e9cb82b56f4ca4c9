-- What is known of a record once its size is.
use mathlib.Core.Path.{◌≡◌, refl}
use mathlib.Core.Bool.{Bool, true, false}
use mathlib.Core.List.{List}
use Prim.Native.Nat.{ℕ, ◌+◌, ◌≤◌}
use native.Mathlib.Omega.{arith}
use lib.Dec.{leb}
use lib.ListN.{length}
use mir.Syntax.{w32}
use Rattle.std.proofs.lemmas.Bool.Decides.{nat_tests}
use Rattle.wire.specs.Pick.{pick, both}
use Rattle.wire.proofs.Le.{unsigned_length}
use Rattle.ir.specs.Operands.{list_of}
use Rattle.ir.specs.declared.Terminator.TheVariants.{Return, Jump, Branch}
use Rattle.ir.proofs.OperandLaws.{at_most_eight}
use Rattle.record.specs.declared.Record.{Record}
use Rattle.record.specs.declared.Record.TheVariants as R
use Rattle.recordwriter.specs.Bytes.{payload_bytes}
use Rattle.recordwriter.specs.Written.{valid}
use Rattle.opcode.specs.Opcode.{fields_of}
use Rattle.opcode.proofs.Opcodes.{map_more}
use Rattle.payloadwriter.proofs.Lengths.{instruction_length, return_length, jump_length, branch_length}
use Rattle.recordwriter.proofs.Length.{head_length, part_length}

-- a choice has a property where each side has it that can come
pub either : {A : Type 0} (Q : A → Type 0) (t : Bool) (x y : A) → (t ≡ true → Q x) → (t ≡ false → Q y) → Q (pick t x y)
either Q true x y f g = f refl
either Q false x y f g = g refl

-- a name that lies in its bytes and is no longer than a name may be
pub name_told : (start len total : ℕ) → both (leb (start + len) total) (leb len 64) ≡ true → (start + len ≤ total) × (len ≤ 64)
name_told start len total e = grind (arith, nat_tests)

-- what is valid in a unit of few maps is valid in one of more
module _ {few more : ℕ} (h : few ≤ more) where
  pub valid_more : (names : List ℕ) (r : Record) → valid few names r ≡ true → valid more names r ≡ true
  unfolding valid
  valid_more names (R.Head x) e = e
  valid_more names (R.Map start len) e = e
  valid_more names (R.Block id) e = refl
  valid_more names (R.Instruction i) e = map_more h i.opcode e
  valid_more names (R.Terminator t) e = refl

-- a valid record is short
pub payload_small : (maps : ℕ) (names : List ℕ) (r : Record) → valid maps names r ≡ true → length (payload_bytes names r) ≤ 88
unfolding valid payload_bytes
payload_small maps names (R.Head h) e = omega (arith, head_length names h)
payload_small maps names (R.Map start len) e =
    let told = name_told start len (length names) e in
    omega (arith, part_length len start names told.0)
payload_small maps names (R.Block id) e = omega (arith, unsigned_length w32 id)
payload_small maps names (R.Instruction i) e = omega (arith, instruction_length i.result (fields_of i.opcode) (list_of i.operands), at_most_eight i.operands)
payload_small maps names (R.Terminator (Return o)) e = omega (arith, return_length {o = o} refl)
payload_small maps names (R.Terminator (Jump target)) e = omega (arith, jump_length {target = target} refl)
payload_small maps names (R.Terminator (Branch o to other)) e = omega (arith, branch_length {o = o} {to = to} {other = other} refl)
