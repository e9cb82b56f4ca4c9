-- What the writing pass puts: operations at a slot, with the slots at which the targets of jumps begin.
use Rattle.std.specs.Prelude.{◌≡◌, Bool, true, List, [], ◌∷◌, ℕ, suc, ◌+◌, ◌*◌, ◌≤◌, ℤ, pos, get_or, None, Option, Some}
use Rattle.std.proofs.lemmas.List.Edits.{sets}
use Rattle.wire.specs.Number.{bytes_before}
use Rattle.wire.specs.Pick.{both}
use Rattle.wire.specs.Range.{fits16}
use Rattle.insn.specs.Form.{opcode_of}
use Rattle.insn.specs.declared.Insn.{Insn}
use Rattle.insn.specs.declared.form.Form.TheVariants.{MovReg, Ja, JneImm}
use Rattle.lower.specs.Op.{Op, plain, map, ja, jne, slots_of}
use Rattle.lower.specs.Put.{wide_insn, zero_insn}
use Rattle.layout.specs.Jumps.{Start, distance}
use Rattle.layout.specs.Code.{insns, code_bytes, relocations}
use Rattle.layout.specs.Inner.{maps_of}
use Rattle.passes.specs.Tables.{relocs_by}

-- the slot at which the i-th of all targets begins
unfoldable pub slot_to : List ℕ → List ℕ → ℕ → ℕ
slot_to edges numbers i = get_or edges (get_or numbers i 0) 0

-- slot 0: R6 = R1
abbrev pub first_insn : Insn
first_insn = record { code = opcode_of MovReg; dst = 6; src = 1; off = pos 0; imm = pos 0 }

abbrev pub jump_of : ℕ → ℤ → Insn
jump_of code off = record { code = code; dst = 0; src = 0; off = off; imm = pos 0 }

-- the instructions from slot s on: the first jump goes to slot a, the one after it to slot b
unfoldable pub insns_to : ℕ → ℕ → ℕ → List Op → List Insn
insns_to a b s [] = []
insns_to a b s (plain i ∷ l) = i ∷ insns_to a b (suc s) l
insns_to a b s (map m ∷ l) = wide_insn ∷ zero_insn ∷ insns_to a b (s + 2) l
insns_to a b s (ja id ∷ l) = jump_of (opcode_of Ja) (distance a s) ∷ insns_to b b (suc s) l
insns_to a b s (jne id ∷ l) = jump_of (opcode_of JneImm) (distance a s) ∷ insns_to b b (suc s) l

-- whether their distances are in range
unfoldable pub reaches : ℕ → ℕ → ℕ → List Op → Bool
reaches a b s [] = true
reaches a b s (plain i ∷ l) = reaches a b (suc s) l
reaches a b s (map m ∷ l) = reaches a b (s + 2) l
reaches a b s (ja id ∷ l) = both (fits16 (distance a s)) (reaches b b (suc s) l)
reaches a b s (jne id ∷ l) = both (fits16 (distance a s)) (reaches b b (suc s) l)

-- there is room at slot s of the code and at the t-th number of the relocations
pub record RoomAt (l : List Op) (s t bytes numbers : ℕ) : Type 0 where
  pub few : s + slots_of l ≤ 851969
  pub code : bytes_before (s + slots_of l) ≤ bytes
  pub relocs : t + 2 * maps_of l ≤ numbers

-- the relocation of a map's load at slot s
unfoldable pub relocations_by : ℕ → Option ℕ → List ℕ
relocations_by s None = []
relocations_by s (Some m) = bytes_before s ∷ m ∷ []

-- n slots are passed, the first of which is the map's load
pub record Relocates (m : Option ℕ) (n s t : ℕ) (rs : List ℕ) (s' t' : ℕ) (rs' : List ℕ) : Type 0 where
  pub slot : s' ≡ s + n
  pub reloc : t' ≡ t + 2 * relocs_by m
  pub relocs : rs' ≡ sets rs t (relocations_by s m)

-- the operations are put there, as the instructions that they are from a slot on
pub record Puts (become : ℕ → List Op → List Insn) (l : List Op) (s t : ℕ) (cs rs : List ℕ) (s' t' : ℕ) (cs' rs' : List ℕ) : Type 0 where
  pub slot : s' ≡ s + slots_of l
  pub reloc : t' ≡ t + 2 * maps_of l
  pub code : cs' ≡ sets cs (bytes_before s) (code_bytes (become s l))
  pub relocs : rs' ≡ sets rs t (relocations s l)

-- from slot s on, with the slots a and b they are the instructions that they are by the emitted blocks, and every distance is in range
pub record Written (xs : List Start) (a b s : ℕ) (l : List Op) : Type 0 where
  pub code : insns_to a b s l ≡ insns xs s l
  pub reach : reaches a b s l ≡ true
