-- The table while the program works: an entry is a mask, with bit 11 where no path has come yet, and bit 12 where the slot waits.
use Rattle.std.specs.Prelude.{ℕ, ◌+◌, ◌*◌, ◌/◌, ◌%◌, ◌^◌, ◌≤◌, ◌<◌, Bool, false, ◌≡◌, ◌⊎◌, Option, Some, None, List, ltb, leb, length, get_or, set}
use Rattle.std.specs.Int.Bits.{bit_and, bit_or}
use Rattle.wire.specs.Pick.{both, either}
use Rattle.wire.specs.Bit.{bit}
use Rattle.worklist.specs.Words.{total, listed, weight, Sound}
use Rattle.worklist.specs.Set.{marked_low, marked_mid, marked_top}
use Rattle.worklist.specs.declared.Worklist.{Worklist}
use Rattle.shape.specs.Code.{slots}
use Rattle.paths.specs.Way.{Next, Reached, Lacks}
use Rattle.paths.specs.Readable.{Readable, Told}
use Rattle.paths.specs.Mask.{node_at}
use Rattle.paths.specs.declared.node.Node.{Node}
use Rattle.paths.specs.declared.Ends.{Ends}

-- the mask at slot v, with bit 11
abbrev pub tab : List ℕ → ℕ → ℕ
tab t v = get_or t v 0 % 4096

-- the mask after an instruction
unfoldable pub through : Node → ℕ → ℕ
through x m = bit_or (bit_and m x.keep) x.made

-- each bit of a is a bit of b
pub record Sub (a b : ℕ) : Type 0 where
  pub below : (r : ℕ) → bit a r ≤ bit b r

-- a path has come to slot v, which does not wait: what it brings to slot w is in w's mask
abbrev pub Passed : List ℕ → List ℕ → ℕ → ℕ → Type 0
Passed b t v w = (4096 ≤ get_or t v 0) ⊎ ((bit (tab t v) 11 ≡ 1) ⊎ Sub (tab t w) (through (node_at b v) (tab t v)))

-- what the table says at any time, but for what slot x brings to others
pub record Table (b : List ℕ) (x : ℕ) (t : List ℕ) : Type 0 where
  pub size : length t ≡ slots b
  pub some : 0 < slots b
  pub few : slots b ≤ 131072
  pub small : (v : ℕ) → get_or t v 0 < 8192
  pub begins : Sub (tab t 0) 1026
  pub goes : (v w : ℕ) → v < slots b → w < slots b → Next b v w → (v ≡ x → ⊥) → Passed b t v w
  pub shown : (v r : ℕ) → v < slots b → r < 11 → bit (tab t v) r ≡ 0 → Lacks b v r
  pub came : (v : ℕ) → v < slots b → bit (tab t v) 11 ≡ 0 → Reached b v
  pub waiting : (v : ℕ) → 4096 ≤ get_or t v 0 → Reached b v

-- each slot that waits is in the set w, but for slot x
pub record Kept (x : ℕ) (t : List ℕ) (w : Worklist) : Type 0 where
  pub sound : Sound w.low w.mid w.top
  pub has : (v : ℕ) → 4096 ≤ get_or t v 0 → (v ≡ x → ⊥) → listed w.low v ≡ 1

pub record Work (b t : List ℕ) (w : Worklist) : Type 0 where
  pub table : Table b (slots b) t
  pub kept : Kept (slots b) t w

-- what falls with each turn: a bit taken off a mask counts for more than all that it puts into the set
abbrev pub rank : ℕ → ℕ
rank x = x % 4096 * 2 + x / 4096

unfoldable pub left : List ℕ → Worklist → ℕ
left t w = total rank t * 2 ^ 66 + weight w.low w.mid w.top

-- the mask at slot v cut to what out has
abbrev pub lowered : List ℕ → ℕ → ℕ → ℕ
lowered t v out = bit_and (tab t v) out

-- w with slot v put in
pub record Marks (w : Worklist) (v : ℕ) (w' : Worklist) : Type 0 where
  pub low : w'.low ≡ marked_low w.low v
  pub mid : w'.mid ≡ marked_mid w.mid v
  pub top : w'.top ≡ marked_top w.top v

-- the mask at a slot, if there is one, cut to what out has; where that changes it, the slot waits
pub data Relaxed (t : List ℕ) (w : Worklist) (out : ℕ) : Option ℕ → List ℕ → Worklist → Type 0 where
  nowhere : Relaxed t w out None t w
  past : {v : ℕ} → length t ≤ v → Relaxed t w out (Some v) t w
  same : {v : ℕ} → v < length t → lowered t v out ≡ tab t v → Relaxed t w out (Some v) t w
  pushed : {v : ℕ} {w' : Worklist} → v < length t → get_or t v 0 < 4096 → (lowered t v out ≡ tab t v → ⊥) → Marks w v w'
      → Relaxed t w out (Some v) (set t v (lowered t v out + 4096)) w'
  again : {v : ℕ} → v < length t → 4096 ≤ get_or t v 0 → (lowered t v out ≡ tab t v → ⊥)
      → Relaxed t w out (Some v) (set t v (lowered t v out + 4096)) w

-- a path has come to slot v, and leads from it past the last slot
unfoldable pub beyond : ℕ → Option ℕ → Bool
beyond n None = false
beyond n (Some v) = leb n v

unfoldable pub leaving : List ℕ → List ℕ → ℕ → Bool
leaving b t v = both (ltb (get_or t v 0) 2048) (either (beyond (length t) (node_at b v).on) (beyond (length t) (node_at b v).to))

-- the end of the work
pub record Settled (b t : List ℕ) : Type 0 where
  pub table : Table b (slots b) t
  pub calm : (v : ℕ) → get_or t v 0 < 4096

-- the front of the table as the caller gets it, and the answer
pub record Solved (b u : List ℕ) (e : Ends) : Type 0 where
  pub size : length u ≡ slots b
  pub front : (s : ℕ) → s < slots b → Readable b s (get_or u s 0)
  pub told : Told b e
