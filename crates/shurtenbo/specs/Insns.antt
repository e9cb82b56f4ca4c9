-- What the calls on one instruction answer, and what they leave in its fields.
use Rattle.std.specs.Prelude.{ℕ, List, [], ◌∷◌, ℤ, pos, Err, Ok, Result, ⊤}
use Rattle.insn.specs.declared.Insn.{Insn}
use Rattle.shurtenbo.specs.Answer.{done_with, not_eight}
use Rattle.insn.specs.declared.Fault.{Fault}
use Rattle.insn.specs.declared.Fault.TheVariants.{NotEight}

abbrev pub insn_of : ℕ → ℕ → ℕ → ℤ → ℤ → Insn
insn_of code dst src off imm = record { code = code; dst = dst; src = src; off = off; imm = imm }

unfoldable pub insn_fields : Insn → List ℤ
insn_fields i = pos i.code ∷ pos i.dst ∷ pos i.src ∷ i.off ∷ i.imm ∷ []

unfoldable pub decoded_numbers : Result Insn Fault → List ℕ
decoded_numbers (Ok i) = done_with 0 0
decoded_numbers (Err fault) = not_eight

-- what is not eight bytes leaves the fields as they were
unfoldable pub decoded_fields : Result Insn Fault → List ℤ → List ℤ
decoded_fields (Ok i) fields = insn_fields i
decoded_fields (Err fault) fields = fields

unfoldable pub encoded_numbers : Result ⊤ Fault → List ℕ
encoded_numbers (Ok _) = done_with 0 0
encoded_numbers (Err fault) = not_eight
