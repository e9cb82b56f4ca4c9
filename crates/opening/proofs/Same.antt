-- Names among others.
use mathlib.Core.Path.{◌≡◌, refl}
use mathlib.Core.Bool.{Bool, true, false}
use mathlib.Core.List.{List, [], ◌∷◌, ◌++◌}
use Prim.Native.Nat.{ℕ, zero, suc, ◌<◌}
use native.Mathlib.Omega.{arith}
use lib.ListN.{length, get_or}
use Rattle.std.proofs.lemmas.Slice.Eq.{bytes_eq-Decides}
use Rattle.wire.specs.Pick.{pick}
use Rattle.opening.specs.Names.{same_name, among}
use Rattle.opening.proofs.Choice.{pick_ind}

-- among names and one more
pub among_more : (name : List ℕ) (ns : List (List ℕ)) (n : List ℕ) → among name (ns ++ (n ∷ [])) ≡ pick (among name ns) true (same_name name n)
unfolding among
among_more name [] n = go (same_name name n)
  where
    go : (t : Bool) → pick t true false ≡ t
    go true = refl
    go false = refl
among_more name (m ∷ ns) n = go (same_name name m) _ _ (among_more name ns n)
  where
    go : (t x y : Bool) → x ≡ pick y true (same_name name n) → pick t true x ≡ pick (pick t true y) true (same_name name n)
    go true x y e = refl
    go false x y e = e

-- a name that stands among others is there
pub among_at : (name : List ℕ) (ns : List (List ℕ)) (i : ℕ) → i < length ns → get_or ns i [] ≡ name → among name ns ≡ true
unfolding among
among_at name [] i h e = absurd (omega arith)
among_at name (n ∷ ns) zero h e = rw (e, (bytes_eq-Decides name name).1 refl)
among_at name (n ∷ ns) (suc i) h e = pick_ind (λ (t : Bool). t ≡ true) (same_name name n) _ _ (λ t. refl) (λ t. among_at name ns i (omega arith) e)
