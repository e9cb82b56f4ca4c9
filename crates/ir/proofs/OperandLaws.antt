-- An instruction's operands are the list that `list_of` says: at most eight, pushed at the end, taken from the front.
use mathlib.Core.Path.{◌≡◌, refl, sym, ap, ◌∙◌, subst}
use mathlib.Core.List.{List, [], ◌∷◌, ◌++◌}
use Prim.Native.Nat.{◌<◌, ◌≤◌}
use native.Mathlib.Omega.{arith}
use lib.ListN.{length}
use Rattle.ir.specs.Operands.{list_of, pushed, first_of, rest_of}
use Rattle.ir.specs.declared.Operand.{Operand}
use Rattle.ir.specs.declared.operands.Operands.{Operands}
use Rattle.ir.specs.declared.operands.Operands.TheVariants.{Zero, One, Two, Three, Four, Five, Six, Seven, Eight}
use Rattle.std.specs.Prelude.{None, Option, Some}

pub at_most_eight : (l : Operands) → length (list_of l) ≤ 8
unfolding list_of
at_most_eight Zero = omega arith
at_most_eight (One a) = omega arith
at_most_eight (Two a b) = omega arith
at_most_eight (Three a b c) = omega arith
at_most_eight (Four a b c d) = omega arith
at_most_eight (Five a b c d e) = omega arith
at_most_eight (Six a b c d e f) = omega arith
at_most_eight (Seven a b c d e f g) = omega arith
at_most_eight (Eight a b c d e f g h) = omega arith

pub pushed_last : (l : Operands) (o : Operand) → length (list_of l) < 8 → list_of (pushed l o) ≡ list_of l ++ (o ∷ [])
unfolding list_of pushed
pushed_last Zero o room = refl
pushed_last (One a) o room = refl
pushed_last (Two a b) o room = refl
pushed_last (Three a b c) o room = refl
pushed_last (Four a b c d) o room = refl
pushed_last (Five a b c d e) o room = refl
pushed_last (Six a b c d e f) o room = refl
pushed_last (Seven a b c d e f g) o room = refl
pushed_last (Eight a b c d e f g h) o room = absurd (omega arith)

-- what a list begins with, by the answer of `first_of`
abbrev Begins : Operands → Option Operand → Type 0
Begins l None = list_of l ≡ []
Begins l (Some a) = list_of l ≡ a ∷ list_of (rest_of l)

begins : (l : Operands) → Begins l (first_of l)
unfolding list_of first_of rest_of
begins Zero = refl
begins (One a) = refl
begins (Two a b) = refl
begins (Three a b c) = refl
begins (Four a b c d) = refl
begins (Five a b c d e) = refl
begins (Six a b c d e f) = refl
begins (Seven a b c d e f g) = refl
begins (Eight a b c d e f g h) = refl

pub first_is : (l : Operands) (a : Operand) → first_of l ≡ Some a → list_of l ≡ a ∷ list_of (rest_of l)
first_is l a e = subst (Begins l) e (begins l)

pub first_nothing : (l : Operands) → first_of l ≡ None → list_of l ≡ []
first_nothing l e = subst (Begins l) e (begins l)

-- the operands of a list, pushed one after the other
push_all : Operands → List Operand → Operands
push_all l [] = l
push_all l (o ∷ os) = push_all (pushed l o) os

push_list : (l : Operands) → push_all Zero (list_of l) ≡ l
unfolding push_all list_of pushed
push_list Zero = refl
push_list (One a) = refl
push_list (Two a b) = refl
push_list (Three a b c) = refl
push_list (Four a b c d) = refl
push_list (Five a b c d e) = refl
push_list (Six a b c d e f) = refl
push_list (Seven a b c d e f g) = refl
push_list (Eight a b c d e f g h) = refl

pub list_of_injective : (l m : Operands) → list_of l ≡ list_of m → l ≡ m
list_of_injective l m e = sym (push_list l) ∙ ap (push_all Zero) e ∙ push_list m
