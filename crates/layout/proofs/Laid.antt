-- Operations laid one after the other.
use mathlib.Core.Path.{◌≡◌, refl, sym, ap, ◌∙◌}
use mathlib.Core.Bool.{Bool, true, false}
use mathlib.Core.List.{List, [], ◌∷◌, ◌++◌, append_assoc}
use Prim.Native.Nat.{ℕ, ◌+◌}
use native.Mathlib.Nat.{add-zero}
use native.Mathlib.Omega.{arith}
use Rattle.wire.specs.Pick.{pick}
use Rattle.lower.specs.Op.{Op, plain, map, ja, jne, slots_of}
use Rattle.layout.specs.Layout.{Laid, laid, refused_at, ◌then◌, ops, slots}

pub nothing_then : (x : Laid) → (laid [] then x) ≡ x
unfolding ◌then◌
nothing_then (laid l) = refl
nothing_then (refused_at place r) = refl

pub then_assoc : (x y z : Laid) → (x then y then z) ≡ (x then (y then z))
unfolding ◌then◌
then_assoc (laid a) (laid b) (laid c) = ap laid (append_assoc a b c)
then_assoc (laid a) (laid b) (refused_at q s) = refl
then_assoc (laid a) (refused_at p r) (laid c) = refl
then_assoc (laid a) (refused_at p r) (refused_at q s) = refl
then_assoc (refused_at p r) (laid b) (laid c) = refl
then_assoc (refused_at p r) (laid b) (refused_at q s) = refl
then_assoc (refused_at p r) (refused_at q s) (laid c) = refl
then_assoc (refused_at p r) (refused_at q s) (refused_at u v) = refl

-- nothing is refused
pub record Fine (x : Laid) : Type 0 where
  pub is : x ≡ laid (ops x)

pub fine_laid : {x : Laid} {l : List Op} → x ≡ laid l → Fine x
unfolding ops
fine_laid {x} {l} e = record { is = e ∙ ap (λ (y : Laid). laid (ops y)) (sym e) }

pub record Both (x y : Laid) : Type 0 where
  pub first : Fine x
  pub second : Fine y
  pub ops : ops (x then y) ≡ ops x ++ ops y

both_by : (x y : Laid) (l : List Op) → (x then y) ≡ laid l → Both x y
unfolding ◌then◌ ops
both_by (laid a) (laid b) l e = record { first = record { is = refl }; second = record { is = refl }; ops = refl }
both_by (laid a) (refused_at p r) l e = let z : ◌≡◌ {A = ℕ} 0 1 = cc in absurd (omega arith)
both_by (refused_at p r) (laid b) l e = let z : ◌≡◌ {A = ℕ} 0 1 = cc in absurd (omega arith)
both_by (refused_at p r) (refused_at q s) l e = let z : ◌≡◌ {A = ℕ} 0 1 = cc in absurd (omega arith)

pub both_fine : (x y : Laid) → Fine (x then y) → Both x y
both_fine x y f = both_by x y _ f.is

pub slots_append : (a b : List Op) → slots_of (a ++ b) ≡ slots_of a + slots_of b
unfolding slots_of
slots_append [] b = omega arith
slots_append (plain i ∷ a) b = let h = slots_append a b in omega arith
slots_append (map m ∷ a) b = let h = slots_append a b in omega arith
slots_append (ja to ∷ a) b = let h = slots_append a b in omega arith
slots_append (jne to ∷ a) b = let h = slots_append a b in omega arith

pub slots_then : (x y : Laid) → Fine (x then y) → slots (x then y) ≡ slots x + slots y
unfolding slots
slots_then x y f = ap slots_of (both_fine x y f).ops ∙ slots_append (ops x) (ops y)

-- what is not emitted takes no slot
pub no_slots : (t : Bool) (s : ℕ) → s + slots (pick t (laid []) (laid [])) ≡ s
unfolding slots ops slots_of
no_slots true s = add-zero s
no_slots false s = add-zero s
