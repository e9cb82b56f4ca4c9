-- What the count of operands decides: which operands an opcode asks for is said beside the opcodes.
use Rattle.std.specs.Prelude.{◌≡◌, true, false, List, ℕ, length}
use Rattle.ir.specs.declared.Operand.{Operand}
use Rattle.opcode.specs.Asks.{enough}
use Rattle.opcode.specs.declared.asks.Asks.{Asks}
use Rattle.lower.specs.Op.{Lowered, refused}
use Rattle.lower.specs.declared.Reason.TheVariants as Re

-- x is refused for its count, which is told, where the operands are not those that are asked for, and for no count where they are
pub record Counted (a : Asks) (operands : List Operand) (x : Lowered) : Type 0 where
  pub wrong : enough a (length operands) ≡ false → x ≡ refused (Re.Count (length operands))
  pub right : enough a (length operands) ≡ true → (n : ℕ) → x ≡ refused (Re.Count n) → ⊥
