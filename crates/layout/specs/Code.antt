-- From operations to instructions, bytes and relocations.
use Rattle.std.specs.Prelude.{ℕ, suc, ◌+◌, List, [], ◌∷◌, ◌++◌, ℤ, pos}
use Rattle.wire.specs.Number.{bytes_before}
use Rattle.insn.specs.Form.{opcode_of}
use Rattle.insn.specs.Layout.{bytes_of}
use Rattle.insn.specs.declared.Insn.{Insn}
use Rattle.insn.specs.declared.form.Form.TheVariants.{Ja, JneImm}
use Rattle.lower.specs.Op.{Op, plain, map, ja, jne}
use Rattle.lower.specs.Put.{wide_insn, zero_insn}
use Rattle.layout.specs.Jumps.{Start, Target, to, nowhere, last_start, distance}

-- the distance to the last emitted block with an id
unfoldable pub distance_to : Target → ℕ → ℤ
distance_to (to s) own = distance s own
distance_to nowhere own = pos 0

-- the instructions of operations from slot s on
unfoldable pub insns : List Start → ℕ → List Op → List Insn
insns xs s [] = []
insns xs s (plain i ∷ l) = i ∷ insns xs (suc s) l
insns xs s (map m ∷ l) = wide_insn ∷ zero_insn ∷ insns xs (s + 2) l
insns xs s (ja id ∷ l) =
    record { code = opcode_of Ja; dst = 0; src = 0; off = distance_to (last_start xs id) s; imm = pos 0 } ∷ insns xs (suc s) l
insns xs s (jne id ∷ l) =
    record { code = opcode_of JneImm; dst = 0; src = 0; off = distance_to (last_start xs id) s; imm = pos 0 } ∷ insns xs (suc s) l

unfoldable pub code_bytes : List Insn → List ℕ
code_bytes [] = []
code_bytes (i ∷ is) = bytes_of i ++ code_bytes is

-- the relocations: pairs of byte offset and map number in code order
unfoldable pub relocations : ℕ → List Op → List ℕ
relocations s [] = []
relocations s (plain i ∷ l) = relocations (suc s) l
relocations s (map m ∷ l) = bytes_before s ∷ m ∷ relocations (s + 2) l
relocations s (ja id ∷ l) = relocations (suc s) l
relocations s (jne id ∷ l) = relocations (suc s) l
