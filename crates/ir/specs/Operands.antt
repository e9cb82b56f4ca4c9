-- An instruction's operands as a list.
use Rattle.std.specs.Prelude.{List, [], ◌∷◌, None, Option, Some}
use Rattle.ir.specs.declared.Operand.{Operand}
use Rattle.ir.specs.declared.operands.Operands.{Operands}
use Rattle.ir.specs.declared.operands.Operands.TheVariants.{Zero, One, Two, Three, Four, Five, Six, Seven, Eight}

unfoldable pub list_of : Operands → List Operand
list_of Zero = []
list_of (One a) = a ∷ []
list_of (Two a b) = a ∷ b ∷ []
list_of (Three a b c) = a ∷ b ∷ c ∷ []
list_of (Four a b c d) = a ∷ b ∷ c ∷ d ∷ []
list_of (Five a b c d e) = a ∷ b ∷ c ∷ d ∷ e ∷ []
list_of (Six a b c d e f) = a ∷ b ∷ c ∷ d ∷ e ∷ f ∷ []
list_of (Seven a b c d e f g) = a ∷ b ∷ c ∷ d ∷ e ∷ f ∷ g ∷ []
list_of (Eight a b c d e f g h) = a ∷ b ∷ c ∷ d ∷ e ∷ f ∷ g ∷ h ∷ []

-- the list with one more at its end; eight stay as they are
unfoldable pub pushed : Operands → Operand → Operands
pushed Zero o = One o
pushed (One a) o = Two a o
pushed (Two a b) o = Three a b o
pushed (Three a b c) o = Four a b c o
pushed (Four a b c d) o = Five a b c d o
pushed (Five a b c d e) o = Six a b c d e o
pushed (Six a b c d e f) o = Seven a b c d e f o
pushed (Seven a b c d e f g) o = Eight a b c d e f g o
pushed (Eight a b c d e f g h) o = Eight a b c d e f g h

-- the first operand, and those after it
unfoldable pub first_of : Operands → Option Operand
first_of Zero = None
first_of (One a) = Some a
first_of (Two a b) = Some a
first_of (Three a b c) = Some a
first_of (Four a b c d) = Some a
first_of (Five a b c d e) = Some a
first_of (Six a b c d e f) = Some a
first_of (Seven a b c d e f g) = Some a
first_of (Eight a b c d e f g h) = Some a

unfoldable pub rest_of : Operands → Operands
rest_of Zero = Zero
rest_of (One a) = Zero
rest_of (Two a b) = One b
rest_of (Three a b c) = Two b c
rest_of (Four a b c d) = Three b c d
rest_of (Five a b c d e) = Four b c d e
rest_of (Six a b c d e f) = Five b c d e f
rest_of (Seven a b c d e f g) = Six b c d e f g
rest_of (Eight a b c d e f g h) = Seven b c d e f g h
