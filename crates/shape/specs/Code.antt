-- Code as slots of 8 bytes, and where its instructions start.
use Rattle.std.specs.Prelude.{ℕ, zero, suc, ◌/◌, Bool, true, false, List, eqb, length}
use Rattle.wire.specs.Pick.{pick}
use Rattle.wire.specs.Le.{byte_at}
use Rattle.wire.specs.Number.{bytes_before}
use Rattle.insn.specs.Layout.{insn_at}
use Rattle.insn.specs.Form.{form_of}
use Rattle.insn.specs.declared.Insn.{Insn}
use Rattle.insn.specs.declared.form.Form.{Form}

unfoldable pub slots : List ℕ → ℕ
slots b = length b / 8

-- the instruction at a slot, and its form
unfoldable pub at : List ℕ → ℕ → Insn
at b s = insn_at b (bytes_before s)

unfoldable pub form_at : List ℕ → ℕ → Form
form_at b s = form_of (at b s).code

-- the first byte at a slot is 0x18
unfoldable pub wide : List ℕ → ℕ → Bool
wide b s = eqb (byte_at b (bytes_before s)) 0x18

-- reading starts at slot 0 and steps 2 after a first byte 0x18, else 1: a slot is a start
-- unless the slot before it is one and holds the first half of a wide instruction
unfoldable pub start : List ℕ → ℕ → Bool
start b zero = true
start b (suc s) = pick (start b s) (pick (wide b s) false true) true
