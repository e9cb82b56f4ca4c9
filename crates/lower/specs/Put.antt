-- The code of an instruction, put into bytes.
use Rattle.std.specs.Prelude.{ℕ, ◌+◌, List, [], ◌∷◌, pos}
use Rattle.wire.specs.Le.{store}
use Rattle.insn.specs.Form.{opcode_of}
use Rattle.insn.specs.Layout.{bytes_of}
use Rattle.insn.specs.declared.Insn.{Insn}
use Rattle.insn.specs.declared.form.Form.TheVariants.{WideLoad}
use Rattle.lower.specs.Op.{Op, plain, map, ja, jne, Lowered, becomes, refused}

-- "map": 0x18 with dst R1, src 1, all else zero, then a zero slot
abbrev pub wide_insn : Insn
wide_insn = record { code = opcode_of WideLoad; dst = 1; src = 1; off = pos 0; imm = pos 0 }

abbrev pub zero_insn : Insn
zero_insn = record { code = 0; dst = 0; src = 0; off = pos 0; imm = pos 0 }

-- the instructions of operations without jumps to blocks: an instruction becomes none of these
unfoldable pub insns_in : List Op → List Insn
insns_in [] = []
insns_in (plain i ∷ l) = i ∷ insns_in l
insns_in (map m ∷ l) = wide_insn ∷ zero_insn ∷ insns_in l
insns_in (ja to ∷ l) = insns_in l
insns_in (jne to ∷ l) = insns_in l

-- instructions one after the other, from the byte `at` on; one that does not lie whole in the bytes is not written
unfoldable pub put_at : List ℕ → ℕ → List Insn → List ℕ
put_at b at [] = b
put_at b at (i ∷ l) = put_at (store b at (bytes_of i)) (at + 8) l

-- what an instruction becomes; a refused one changes nothing
unfoldable pub put_lowered : List ℕ → ℕ → Lowered → List ℕ
put_lowered b at (becomes l) = put_at b at (insns_in l)
put_lowered b at (refused r) = b
