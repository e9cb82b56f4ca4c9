-- A set of slots in three levels of words. A bit above says that the word below may be other than 0: it may say too much, never too little.
use Rattle.std.specs.Prelude.{ℕ, ◌+◌, ◌-◌, ◌/◌, ◌%◌, ◌^◌, ◌≤◌, ◌<◌, ◌≡◌, List, [], ◌∷◌, Option, Some, length, get_or}
use Rattle.wire.specs.Bit.{bit}

-- z is the lowest set bit of n, and n − 2^z is n without it
pub record Lowest (n z : ℕ) : Type 0 where
  pub set : bit n z ≡ 1
  pub clear : (r : ℕ) → r < z → bit n r ≡ 0
  pub has : 2 ^ z ≤ n
  pub rest : (r : ℕ) → (r ≡ z → ⊥) → bit (n - 2 ^ z) r ≡ bit n r

-- a sum over a list
unfoldable pub total : (ℕ → ℕ) → List ℕ → ℕ
total f [] = 0
total f (x ∷ l) = f x + total f l

abbrev pub itself : ℕ → ℕ
itself x = x

-- slot v is in the set whose lowest level is d
unfoldable pub listed : List ℕ → ℕ → ℕ
listed d v = bit (get_or d (v / 64) 0) (v % 64)

-- each word that is not 0 has its bit above it
pub record Sound (d s : List ℕ) (top : ℕ) : Type 0 where
  pub low : length d ≡ 2048
  pub mid : length s ≡ 32
  pub high : top < 2 ^ 32
  pub words : (j : ℕ) → (get_or d j 0 ≡ 0 → ⊥) → bit (get_or s (j / 64) 0) (j % 64) ≡ 1
  pub summaries : (i : ℕ) → (get_or s i 0 ≡ 0 → ⊥) → bit top i ≡ 1

-- what falls with each taking
unfoldable pub weight : List ℕ → List ℕ → ℕ → ℕ
weight d s top = total itself d + total itself s + top

-- d, s, top with slot w put in
pub record Marked (d s : List ℕ) (top w : ℕ) (d' s' : List ℕ) (top' : ℕ) : Type 0 where
  pub sound : Sound d' s' top'
  pub here : w < 131072 → listed d' w ≡ 1
  pub keeps : (v : ℕ) → listed d v ≡ 1 → listed d' v ≡ 1
  pub most : weight d' s' top' ≤ weight d s top + 2 ^ 65

-- d, s, top with at most one slot taken out, r
pub record Took (d s : List ℕ) (top : ℕ) (d' s' : List ℕ) (top' : ℕ) (r : Option ℕ) : Type 0 where
  pub sound : Sound d' s' top'
  pub keeps : (v : ℕ) → listed d v ≡ 1 → (Some v ≡ r → ⊥) → listed d' v ≡ 1
  pub less : 0 < top → weight d' s' top' < weight d s top
