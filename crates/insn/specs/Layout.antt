-- RFC 9669: the 8 bytes of an instruction. Byte 0 is the opcode; byte 1 the destination register in its low four bits and the
-- source register in its high four; bytes 2 and 3 the offset, signed; bytes 4 to 7 imm, signed; low byte first.
use Rattle.std.specs.Prelude.{ℕ, ◌+◌, ◌*◌, ◌/◌, ◌%◌, ◌<◌, List, ◌∷◌, ◌++◌, eqb, length, Err, Ok, Result, ⊤}
use Rattle.std.specs.Int.{w16, w32, w64}
use Rattle.std.proofs.Common.{SFits}
use Rattle.wire.specs.Pick.{pick}
use Rattle.wire.specs.Le.{byte_at, le, signed_at, unsigned_bytes, signed_bytes}
use Rattle.insn.specs.declared.Insn.{Insn}
use Rattle.insn.specs.declared.Fault.{Fault}
use Rattle.insn.specs.declared.Fault.TheVariants.{NotEight}

-- fields that the 8 bytes keep: registers 0 to 15, an offset of 16 bits and an imm of 32
pub record Fields (i : Insn) : Type 0 where
  pub dst : i.dst < 16
  pub src : i.src < 16
  pub off : SFits w16 i.off
  pub imm : SFits w32 i.imm

-- a register field keeps four bits
unfoldable pub bytes_of : Insn → List ℕ
bytes_of i = i.code ∷ (i.dst % 16 + 16 * (i.src % 16)) ∷ signed_bytes w16 i.off ++ signed_bytes w32 i.imm

-- the instruction that stands at the byte at
unfoldable pub insn_at : List ℕ → ℕ → Insn
insn_at b at = record {
  code = byte_at b at;
  dst = byte_at b (at + 1) % 16;
  src = byte_at b (at + 1) / 16;
  off = signed_at w16 b (at + 2);
  imm = signed_at w32 b (at + 4);
}

-- the 8 bytes as one number, and the instruction of a number
unfoldable pub word_of : Insn → ℕ
word_of i = le 8 (bytes_of i) 0

unfoldable pub insn_of : ℕ → Insn
insn_of w = insn_at (unsigned_bytes w64 w) 0

-- 8 bytes are an instruction, and any other number of them is none
unfoldable pub decoded : List ℕ → Result Insn Fault
decoded b = pick (eqb (length b) 8) (Ok (insn_at b 0)) (Err NotEight)

unfoldable pub encoded_answer : List ℕ → Result ⊤ Fault
encoded_answer b = pick (eqb (length b) 8) (Ok tt) (Err NotEight)

unfoldable pub encoded_bytes : Insn → List ℕ → List ℕ
encoded_bytes i b = pick (eqb (length b) 8) (bytes_of i) b
