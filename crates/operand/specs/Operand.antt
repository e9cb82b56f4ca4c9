-- An operand is tag 0, u32 variable, four zero bytes; or tag 1, i64 immediate.
use Rattle.std.specs.Prelude.{ℕ, zero, suc, ◌+◌, Bool, true, false, List, [], ◌∷◌, ◌++◌, eqb, leb, length, None, Option, Some}
use Rattle.std.specs.Int.{w32, w64}
use Rattle.wire.specs.Pick.{pick}
use Rattle.wire.specs.Le.{byte_at, unsigned_at, signed_at, unsigned_bytes, signed_bytes}
use Rattle.ir.specs.declared.Operand.{Operand}
use Rattle.ir.specs.declared.Operand.TheVariants.{Var, Immediate}
use Rattle.ir.specs.declared.operands.Operands.{Operands}
use Rattle.ir.specs.Operands.{pushed}

-- the operand in the nine bytes at i, which lie whole in b
unfoldable pub operand_at : List ℕ → ℕ → Option Operand
operand_at b i =
    pick (leb (i + 9) (length b))
    (pick (eqb (byte_at b i) 0) (pick (eqb (unsigned_at w32 b (i + 5)) 0) (Some (Var (unsigned_at w32 b (i + 1)))) None)
    (pick (eqb (byte_at b i) 1) (Some (Immediate (signed_at w64 b (i + 1)))) None))
    None

unfoldable pub on_operand : Option Operand → (Operand → Option Operands) → Option Operands
on_operand (Some o) then = then o
on_operand None then = None

-- the operands l and the k from i on
unfoldable pub operands_at : Operands → List ℕ → ℕ → ℕ → Option Operands
operands_at l b i zero = Some l
operands_at l b i (suc k) = on_operand (operand_at b i) (λ o. operands_at (pushed l o) b (i + 9) k)

-- the bytes are an operand's, and those of so many
unfoldable pub is_operand : Option Operand → Bool
is_operand (Some o) = true
is_operand None = false

unfoldable pub are_operands : Option Operands → Bool
are_operands (Some l) = true
are_operands None = false

-- the operand at i in bytes that are known to be an operand's: tag 1 is an immediate's
unfoldable pub operand_in : List ℕ → ℕ → Operand
operand_in b i = pick (eqb (byte_at b i) 1) (Immediate (signed_at w64 b (i + 1))) (Var (unsigned_at w32 b (i + 1)))

-- the k from i on
unfoldable pub operands_in : List ℕ → ℕ → ℕ → List Operand
operands_in b i zero = []
operands_in b i (suc k) = operand_in b i ∷ operands_in b (i + 9) k

-- an operand's bytes
unfoldable pub operand_bytes : Operand → List ℕ
operand_bytes (Var v) = 0 ∷ unsigned_bytes w32 v ++ unsigned_bytes w32 0
operand_bytes (Immediate z) = 1 ∷ signed_bytes w64 z

unfoldable pub operands_bytes : List Operand → List ℕ
operands_bytes [] = []
operands_bytes (o ∷ os) = operand_bytes o ++ operands_bytes os
