-- Every block whose id is reached is emitted, in file order, also both of a pair.
use Rattle.std.specs.Prelude.{ℕ, Bool, List, [], ◌∷◌}
use Rattle.wire.specs.Pick.{pick}
use Rattle.ir.specs.declared.Terminator.{Terminator}
use Rattle.ir.specs.declared.Terminator.TheVariants.{Return, Jump, Branch}
use Rattle.unitfile.specs.Unit.{BasicBlock}
use Rattle.flow.specs.Node.{Node}
use Rattle.flow.specs.Computed.{is_reached}

-- the ids that a terminator goes to
unfoldable pub targets : Terminator → List ℕ
targets (Return o) = []
targets (Jump target) = target ∷ []
targets (Branch o to other) = to ∷ other ∷ []

unfoldable pub nodes : List BasicBlock → List Node
nodes [] = []
nodes (b ∷ bs) = record { id = b.id; targets = targets b.terminator } ∷ nodes bs

unfoldable pub keep : (ℕ → Bool) → List BasicBlock → List BasicBlock
keep reached [] = []
keep reached (b ∷ bs) = pick (reached b.id) (b ∷ keep reached bs) (keep reached bs)

unfoldable pub emitted : List BasicBlock → List BasicBlock
emitted bs = keep (is_reached (nodes bs)) bs
