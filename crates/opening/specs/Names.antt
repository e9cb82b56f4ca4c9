-- The head and the maps of a unit: their names in file order, and where the blocks begin.
use Rattle.std.specs.Prelude.{◌≡◌, ℕ, zero, suc, ◌<◌, Bool, true, false, List, [], ◌∷◌, ◌++◌, leb, length, take, drop, get_or, Err, Ok, Result}
use Rattle.std.specs.Str.{bytes_eq}
use Rattle.wire.specs.Pick.{pick}
use Rattle.record.specs.Record.{read_record}
use Rattle.record.specs.declared.Head.{Head}
use Rattle.record.specs.declared.Record.TheVariants as R
use Rattle.record.specs.declared.Due.TheVariants as Du
use Rattle.record.specs.declared.Fault.{Fault}
use Rattle.record.specs.declared.Fault.TheVariants.{TooLong, NoHead, NotDue, Broken}
use Rattle.record.specs.declared.Record.{Record}

-- two names are the same bytes
abbrev pub same_name : List ℕ → List ℕ → Bool
same_name = bytes_eq

-- no name twice
pub record Distinct (names : List (List ℕ)) : Type 0 where
  pub apart : (i j : ℕ) → i < j → j < length names → get_or names i [] ≡ get_or names j [] → ⊥

unfoldable pub among : List ℕ → List (List ℕ) → Bool
among name [] = false
among name (n ∷ ns) = pick (same_name name n) true (among name ns)

-- the len bytes of b from start on
abbrev pub part : ℕ → ℕ → List ℕ → List ℕ
part start len b = take len (drop start b)

-- the names of the maps, and the byte after the last map's record
pub data Names : Type 0 where
  named : List (List ℕ) → ℕ → Names
  refused : Fault → Names

-- a map's record at a byte, after the maps of these names: no name twice
unfoldable pub on_map : List ℕ → List (List ℕ) → ℕ → Result (Record × ℕ) Fault → (List (List ℕ) → ℕ → Names) → Names
on_map b names at (Ok (R.Map start len, next)) go =
    pick (among (part start len b) names) (refused (Broken at)) (go (names ++ (part start len b ∷ [])) next)
on_map b names at (Ok (R.Head h, next)) go = refused (NotDue at)
on_map b names at (Ok (R.Block i, next)) go = refused (NotDue at)
on_map b names at (Ok (R.Instruction i, next)) go = refused (NotDue at)
on_map b names at (Ok (R.Terminator t, next)) go = refused (NotDue at)
on_map b names at (Err f) go = refused f

-- k maps more from a byte on
unfoldable pub names_at : List ℕ → List (List ℕ) → ℕ → ℕ → Names
names_at b names at zero = named names at
names_at b names at (suc k) = on_map b names at (read_record b at Du.Map 0) (λ more next. names_at b more next k)

-- a unit is at most 262,144 bytes, and its first record is its head
unfoldable pub first_record : List ℕ → Result (Record × ℕ) Fault
first_record b = pick (leb (length b) 262144) (read_record b 0 Du.Head 0) (Err TooLong)

-- the head, the names, and where the blocks begin
pub data Opened : Type 0 where
  opened : Head → List (List ℕ) → ℕ → Opened
  shut : Fault → Opened

unfoldable pub with_names : Head → Names → Opened
with_names h (named names at) = opened h names at
with_names h (refused f) = shut f

unfoldable pub on_head : List ℕ → Result (Record × ℕ) Fault → Opened
on_head b (Ok (R.Head h, next)) = with_names h (names_at b [] next h.maps)
on_head b (Ok (R.Map start len, next)) = shut NoHead
on_head b (Ok (R.Block i, next)) = shut NoHead
on_head b (Ok (R.Instruction i, next)) = shut NoHead
on_head b (Ok (R.Terminator t, next)) = shut NoHead
on_head b (Err f) = shut f

unfoldable pub open_unit : List ℕ → Opened
open_unit b = on_head b (first_record b)
