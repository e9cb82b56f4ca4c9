-- What each terminator becomes.
use Rattle.std.specs.Prelude.{[], ◌∷◌, pos}
use Rattle.ir.specs.declared.Terminator.{Terminator}
use Rattle.ir.specs.declared.Terminator.TheVariants.{Return, Jump, Branch}
use Rattle.insn.specs.declared.form.Form.TheVariants.{Exit}
use Rattle.frame.specs.Cell.{Frame}
use Rattle.lower.specs.Op.{Lowered, becomes, ja, jne, insn, ◌▸◌}
use Rattle.lower.specs.Operand.{load}

-- Return: load R0, EXIT. Jump: JA. Branch: load R0, JNE 0 to true, JA to false
unfoldable pub terminator : Frame → Terminator → Lowered
terminator f (Return o) = load f 0 o ▸ insn Exit 0 0 (pos 0) (pos 0)
terminator f (Jump target) = becomes (ja target ∷ [])
terminator f (Branch o to other) = load f 0 o ▸ becomes (jne to ∷ ja other ∷ [])
