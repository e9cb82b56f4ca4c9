-- Lists written one after the other.
use mathlib.Core.Path.{◌≡◌, ap, ◌∙◌}
use mathlib.Core.List.{List, [], ◌∷◌, ◌++◌}
use Prim.Native.Nat.{ℕ, suc, ◌+◌}
use native.Mathlib.Nat.{add-zero}
use native.Mathlib.Omega.{arith}
use lib.ListN.{length, set}
use lib.Seq.{sets}

pub sets_append : (l : List ℕ) (k : ℕ) (x y : List ℕ) → sets l k (x ++ y) ≡ sets (sets l k x) (k + length x) y
sets_append l k [] y = rw add-zero
sets_append l k (a ∷ x) y =
    let e : suc k + length x ≡ k + suc (length x) = omega arith in
    sets_append (set l k a) (suc k) x y ∙ ap (λ (n : ℕ). sets (sets (set l k a) (suc k) x) n y) e
