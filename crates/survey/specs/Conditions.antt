-- Whether a variable is a branch condition of any block, reached or not.
use Rattle.std.specs.Prelude.{ℕ, Bool, false, List, [], ◌∷◌, eqb}
use Rattle.wire.specs.Pick.{either}
use Rattle.ir.specs.declared.Operand.{Operand}
use Rattle.ir.specs.declared.Operand.TheVariants.{Var, Immediate}
use Rattle.ir.specs.declared.Terminator.{Terminator}
use Rattle.ir.specs.declared.Terminator.TheVariants.{Return, Jump, Branch}
use Rattle.unitfile.specs.Unit.{BasicBlock}

unfoldable pub is_var : Operand → ℕ → Bool
is_var (Var v) w = eqb v w
is_var (Immediate z) w = false

unfoldable pub branches_on : Terminator → ℕ → Bool
branches_on (Return o) v = false
branches_on (Jump target) v = false
branches_on (Branch o to other) v = is_var o v

unfoldable pub is_condition : List BasicBlock → ℕ → Bool
is_condition [] v = false
is_condition (b ∷ bs) v = either (branches_on b.terminator v) (is_condition bs v)
