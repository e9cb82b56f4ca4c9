-- The pieces of an instruction.
use mathlib.Core.Path.{◌≡◌}
use mathlib.Core.List.{List, [], ◌∷◌, ◌++◌, append_assoc}
use Prim.Native.Nat.{ℕ}
use lib.ListN.{length}
use mir.Syntax.{w32}
use Rattle.wire.specs.Le.{unsigned_bytes, signed_bytes}
use Rattle.ir.specs.declared.Operand.{Operand}
use Rattle.opcode.specs.declared.Fields.{Fields}
use Rattle.operand.specs.Operand.{operands_bytes}
use Rattle.payloadwriter.specs.Payloads.{instruction_bytes}

-- an instruction's pieces, of which n is the operand count
pub instruction_pieces : (result : ℕ) (f : Fields) (n : ℕ) (os : List Operand) → n ≡ length os → unsigned_bytes w32 result ++ (f.code ∷ []) ++ (f.small ∷ []) ++ (n ∷ []) ++ (0 ∷ []) ++ signed_bytes w32 f.offset ++ unsigned_bytes w32 f.number ++ operands_bytes os ≡ instruction_bytes result f os
unfolding instruction_bytes
instruction_pieces result f n os e = rw e (simp append_assoc)
