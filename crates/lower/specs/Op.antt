-- What an instruction or a terminator becomes: a list of operations, or the reason why it is refused.
use Rattle.std.specs.Prelude.{ℕ, suc, List, [], ◌∷◌, ◌++◌, ℤ}
use Rattle.insn.specs.Form.{opcode_of}
use Rattle.insn.specs.declared.Insn.{Insn}
use Rattle.insn.specs.declared.form.Form.{Form}
use Rattle.lower.specs.declared.Reason.{Reason}

-- one slot; the load of a map's address, which takes two slots and a relocation; JA to a block; JNE R0, 0 to a block
pub data Op : Type 0 where
  plain : Insn → Op
  map : ℕ → Op
  ja : ℕ → Op
  jne : ℕ → Op

pub data Lowered : Type 0 where
  becomes : List Op → Lowered
  refused : Reason → Lowered

-- one after the other, and the first refusal of two
infixl 4 ◌▸◌
unfoldable pub ◌▸◌ : Lowered → Lowered → Lowered
becomes a ▸ becomes b = becomes (a ++ b)
becomes a ▸ refused r = refused r
refused r ▸ becomes b = refused r
refused r ▸ refused q = refused r

-- an instruction of a form
unfoldable pub insn : Form → ℕ → ℕ → ℤ → ℤ → Lowered
insn form dst src off imm =
    becomes (plain (record { code = opcode_of form; dst = dst; src = src; off = off; imm = imm }) ∷ [])

-- how many slots operations take
unfoldable pub slots_of : List Op → ℕ
slots_of [] = 0
slots_of (plain i ∷ l) = suc (slots_of l)
slots_of (map m ∷ l) = suc (suc (slots_of l))
slots_of (ja to ∷ l) = suc (slots_of l)
slots_of (jne to ∷ l) = suc (slots_of l)
