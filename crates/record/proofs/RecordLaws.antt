-- What a record is that was read: where it ends, which kind came, and the bounds of what it holds.
use mathlib.Core.Path.{◌≡◌, refl, subst}
use mathlib.Core.Bool.{Bool, true, false}
use mathlib.Core.List.{List}
use Prim.Native.Nat.{ℕ, ◌+◌, ◌≤◌}
use native.Mathlib.Omega.{arith}
use borrow.Author.Tests.{eqb-true, leb-true}
use lib.Dec.{eqb, leb}
use lib.ListN.{length}
use Rattle.std.proofs.lemmas.Bool.Decides.{nat_tests}
use Rattle.wire.specs.Pick.{pick, both}
use Rattle.ir.specs.declared.Opcode.{Opcode}
use Rattle.ir.specs.declared.Instruction.{Instruction}
use Rattle.record.specs.Frame.{length_at, kind_at, whole_at, next_at}
use Rattle.opcode.specs.Opcode.{map_ok, opcode_of}
use Rattle.record.specs.Instruction.{joined, sized, instruction_at}
use Rattle.record.specs.Payload.{head_in, head_ok, of_instruction, of_terminator, payload_at}
use Rattle.record.specs.Record.{kind_due, on_payload, read_record}
use Rattle.record.specs.declared.Head.{Head}
use Rattle.record.specs.declared.Record.{Record}
use Rattle.record.specs.declared.Record.TheVariants as R
use Rattle.record.specs.declared.Due.{Due}
use Rattle.record.specs.declared.Due.TheVariants as Du
use Rattle.opcode.specs.declared.Fields.{Fields}
use Rattle.record.proofs.Frames.{ends_inside}
use Rattle.opcode.proofs.Opcodes.{both_true, opcode_has}
use Rattle.ir.specs.declared.Terminator.{Terminator}
use Rattle.ir.specs.declared.operands.Operands.{Operands}
use Rattle.record.specs.declared.Fault.{Fault}
use Rattle.std.specs.Prelude.{Err, None, Ok, Option, Result, Some}

-- ---- a head's bounds

pub record Bounds (h : Head) : Type 0 where
  pub edition : h.edition ≡ 1
  pub maps : h.maps ≤ 64
  pub blocks : h.blocks ≤ 1024

pub head_bounds : (h : Head) → head_ok h ≡ true → Bounds h
unfolding head_ok
head_bounds h e = record { edition = grind (arith, nat_tests); maps = grind (arith, nat_tests); blocks = grind (arith, nat_tests) }

-- ---- which records can come

-- what is known of a record by what was due, its payload from start up to next; the other records do not come
abbrev pub Came : (maps start next : ℕ) → Due → Record → Type 0
Came maps start next Du.Head (R.Head h) = head_ok h ≡ true
Came maps start next Du.Head (R.Map from len) = ⊥
Came maps start next Du.Head (R.Block id) = ⊥
Came maps start next Du.Head (R.Instruction i) = ⊥
Came maps start next Du.Head (R.Terminator t) = ⊥
Came maps start next Du.Map (R.Head h) = ⊥
Came maps start next Du.Map (R.Map from len) = (from ≡ start) × ((from + len ≡ next) × (len ≤ 64))
Came maps start next Du.Map (R.Block id) = ⊥
Came maps start next Du.Map (R.Instruction i) = ⊥
Came maps start next Du.Map (R.Terminator t) = ⊥
Came maps start next Du.Block (R.Head h) = ⊥
Came maps start next Du.Block (R.Map from len) = ⊥
Came maps start next Du.Block (R.Block id) = Unit {0}
Came maps start next Du.Block (R.Instruction i) = ⊥
Came maps start next Du.Block (R.Terminator t) = ⊥
Came maps start next Du.Inside (R.Head h) = ⊥
Came maps start next Du.Inside (R.Map from len) = ⊥
Came maps start next Du.Inside (R.Block id) = ⊥
Came maps start next Du.Inside (R.Instruction i) = map_ok maps i.opcode ≡ true
Came maps start next Du.Inside (R.Terminator t) = Unit {0}

-- what is known of the record r that was read at a byte, and of the byte after it
pub record Taken (b : List ℕ) (at : ℕ) (due : Due) (maps : ℕ) (r : Record) (next : ℕ) : Type 0 where
  pub later : at + 4 ≤ next
  pub within : next ≤ length b
  pub ends : next ≡ next_at b at
  pub kind : kind_due due (kind_at b at) ≡ true
  pub payload : payload_at (kind_at b at) b (at + 4) (length_at b at) maps ≡ Some r
  pub came : Came maps (at + 4) next due r

-- ---- a property of what was read, where something was

abbrev IfOpcode : (Opcode → Type 0) → Option Opcode → Type 0
IfOpcode Q (Some o) = Q o
IfOpcode Q None = Unit {0}

abbrev IfInstruction : (Instruction → Type 0) → Option Instruction → Type 0
IfInstruction Q (Some i) = Q i
IfInstruction Q None = Unit {0}

abbrev IfPayload : (Record → Type 0) → Option Record → Type 0
IfPayload Q (Some r) = Q r
IfPayload Q None = Unit {0}

abbrev IfRead : (Record → ℕ → Type 0) → Result (Record × ℕ) Fault → Type 0
IfRead Q (Ok (r, next)) = Q r next
IfRead Q (Err f) = Unit {0}

-- a choice has a property where each side has it that can come
pub either : {A : Type 0} (Q : A → Type 0) (t : Bool) (x y : A) → (t ≡ true → Q x) → Q y → Q (pick t x y)
either Q true x y f g = f refl
either Q false x y f g = g

-- ---- opcodes

record Below (maps : ℕ) (x : Option Opcode) : Type 0 where
  below : IfOpcode (λ o. map_ok maps o ≡ true) x

opcode_below : (maps : ℕ) (f : Fields) → Below maps (opcode_of f maps)
opcode_below maps f = go (opcode_of f maps) refl
  where
    go : (x : Option Opcode) → opcode_of f maps ≡ x → Below maps x
    go (Some o) e = record { below = (opcode_has f maps o e).map }
    go None e = record { below = tt }

-- ---- instructions

record MapsBelow (maps : ℕ) (x : Option Instruction) : Type 0 where
  below : IfInstruction (λ i. map_ok maps i.opcode ≡ true) x

joined_below : (maps result : ℕ) (o : Option Opcode) (l : Option Operands) → Below maps o → MapsBelow maps (joined result o l)
unfolding joined
joined_below maps result (Some o) (Some l) h = record { below = h.below }
joined_below maps result (Some o) None h = record { below = tt }
joined_below maps result None (Some l) h = record { below = tt }
joined_below maps result None None h = record { below = tt }

instruction_below : (maps : ℕ) (b : List ℕ) (at len : ℕ) → MapsBelow maps (instruction_at b at len maps)
unfolding instruction_at
instruction_below maps b at len = either (MapsBelow maps) (sized b at len) _ _ (λ _. joined_below maps _ _ _ (opcode_below maps _)) (record { below = tt })

-- ---- payloads

record Comes (maps start next : ℕ) (due : Due) (p : Option Record) : Type 0 where
  comes : IfPayload (Came maps start next due) p

module _ (maps : ℕ) (b : List ℕ) (start len : ℕ) where
  abbrev Here : Due → Option Record → Type 0
  Here due p = Comes maps start (start + len) due p

  head_comes : Here Du.Head (payload_at 1 b start len maps)
  unfolding payload_at
  head_comes =
      either (Here Du.Head) (both (eqb len 8) (head_ok (head_in b start))) _ _ (λ e. record { comes = (both_true (eqb len 8) (head_ok (head_in b start)) e).1 }) (record { comes = tt })

  map_comes : Here Du.Map (payload_at 2 b start len maps)
  unfolding payload_at
  map_comes =
      either (Here Du.Map) (leb len 64) _ _ (λ e. record { comes = (refl, (refl, leb-true len 64 e)) }) (record { comes = tt })

  block_comes : Here Du.Block (payload_at 3 b start len maps)
  unfolding payload_at
  block_comes = either (Here Du.Block) (eqb len 4) _ _ (λ e. record { comes = tt }) (record { comes = tt })

  instruction_comes : (x : Option Instruction) → MapsBelow maps x → Here Du.Inside (of_instruction x)
  unfolding of_instruction
  instruction_comes (Some i) h = record { comes = h.below }
  instruction_comes None h = record { comes = tt }

  terminator_comes : (x : Option Terminator) → Here Du.Inside (of_terminator x)
  unfolding of_terminator
  terminator_comes (Some t) = record { comes = tt }
  terminator_comes None = record { comes = tt }

  kind_4_comes : Here Du.Inside (payload_at 4 b start len maps)
  unfolding payload_at
  kind_4_comes = instruction_comes _ (instruction_below maps b start len)

  kind_5_comes : Here Du.Inside (payload_at 5 b start len maps)
  unfolding payload_at
  kind_5_comes = terminator_comes _

  payload_comes : (due : Due) (kind : ℕ) → kind_due due kind ≡ true → Here due (payload_at kind b start len maps)
  unfolding kind_due
  payload_comes Du.Head kind e = rw (eqb-true kind 1 e) head_comes
  payload_comes Du.Map kind e = rw (eqb-true kind 2 e) map_comes
  payload_comes Du.Block kind e = rw (eqb-true kind 3 e) block_comes
  payload_comes Du.Inside kind e = go (eqb kind 4) refl e
    where
      go : (t : Bool) → eqb kind 4 ≡ t → pick t true (eqb kind 5) ≡ true → Here Du.Inside (payload_at kind b start len maps)
      go true p e = rw (eqb-true kind 4 p) kind_4_comes
      go false p e = rw (eqb-true kind 5 e) kind_5_comes

-- ---- records

module _ (b : List ℕ) (at : ℕ) (due : Due) (maps : ℕ) where
  record Reads (x : Result (Record × ℕ) Fault) : Type 0 where
    reads : IfRead (λ r next. Taken b at due maps r next) x

  on_payload_lem : whole_at b at ≡ true → kind_due due (kind_at b at) ≡ true → (p : Option Record) → payload_at (kind_at b at) b (at + 4) (length_at b at) maps ≡ p → Comes maps (at + 4) (next_at b at) due p → Reads (on_payload due at (next_at b at) p)
  unfolding whole_at next_at on_payload
  on_payload_lem w k (Some r) e h =
      let inside = ends_inside (length b) at (length_at b at) w in
      record { reads = record { later = omega arith; within = inside; ends = refl; kind = k; payload = e; came = h.comes } }
  on_payload_lem w k None e h = record { reads = tt }

  record_reads : Reads (read_record b at due maps)
  unfolding read_record next_at
  record_reads =
      either Reads (whole_at b at) _ _
      (λ w. either Reads (kind_due due (kind_at b at)) _ _ (λ k. on_payload_lem w k _ refl (payload_comes maps b (at + 4) (length_at b at) due (kind_at b at) k)) (record { reads = tt }))
      (record { reads = tt })

  pub record_taken : (r : Record) (next : ℕ) → read_record b at due maps ≡ Ok (r, next) → Taken b at due maps r next
  record_taken r next e = (subst Reads e record_reads).reads
