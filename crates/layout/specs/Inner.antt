-- The blocks by their numbers in file order, and how many relocations operations make. No public promise names these.
use Rattle.std.specs.Prelude.{Bool, List, [], ◌∷◌, ℕ, suc, ◌+◌}
use Rattle.wire.specs.Pick.{pick}
use Rattle.insn.specs.declared.Insn.{Insn}
use Rattle.unitfile.specs.Unit.{BasicBlock}
use Rattle.lower.specs.Op.{Op, plain, map, ja, jne}
use Rattle.layout.specs.Layout.{Context, Laid, laid, scratch_through, block, slots}

-- the blocks whose number is marked, from number k on
unfoldable pub keep_by : (ℕ → Bool) → ℕ → List BasicBlock → List BasicBlock
keep_by e k [] = []
keep_by e k (b ∷ bs) = pick (e k) (b ∷ keep_by e (suc k) bs) (keep_by e (suc k) bs)

-- what a block becomes, and the scratch position after it, by whether it is emitted
unfoldable pub scratch_by : Bool → ℕ → BasicBlock → ℕ
scratch_by t j b = pick t (scratch_through j b.instructions) j

unfoldable pub block_by : Context → Bool → ℕ → BasicBlock → Laid
block_by c t j b = pick t (block c j b) (laid [])

-- the slot at which each block begins, emitted or not, and then the slot after the last
unfoldable pub edges : Context → (ℕ → Bool) → ℕ → ℕ → ℕ → List BasicBlock → List ℕ
edges c e k j s [] = s ∷ []
edges c e k j s (b ∷ bs) = s ∷ edges c e (suc k) (scratch_by (e k) j b) (s + slots (block_by c (e k) j b)) bs

-- ---- plain instructions, as operations

unfoldable pub plain_ops : List Insn → List Op
plain_ops [] = []
plain_ops (i ∷ is) = plain i ∷ plain_ops is

-- ---- how many relocations operations make

unfoldable pub maps_of : List Op → ℕ
maps_of [] = 0
maps_of (plain i ∷ l) = maps_of l
maps_of (map m ∷ l) = suc (maps_of l)
maps_of (ja id ∷ l) = maps_of l
maps_of (jne id ∷ l) = maps_of l
