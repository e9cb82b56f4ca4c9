-- A text of ASCII characters as bytes.
use Rattle.std.specs.Prelude.{ℕ, List, [], ◌∷◌}
use Prim.Native.Char.{code}
use Prim.Native.String.{String, [] as none, ◌∷◌ as ◌then◌}

unfoldable pub ascii : String → List ℕ
ascii none = []
ascii (c then s) = code c ∷ ascii s
