-- Where the head, the maps and the blocks of a unit lie.
use Rattle.std.specs.Prelude.{ℕ, zero, suc, List, Err, Ok, Result}
use Rattle.record.specs.Record.{read_record}
use Rattle.record.specs.declared.Record.TheVariants as R
use Rattle.record.specs.declared.Due.TheVariants as Du
use Rattle.record.specs.declared.Fault.TheVariants.{NoHead, NotDue}
use Rattle.opening.specs.declared.MapAt.{MapAt}
use Rattle.opening.specs.Names.{Opened, opened, shut}
use Rattle.record.specs.declared.Fault.{Fault}
use Rattle.record.specs.declared.Head.{Head}
use Rattle.record.specs.declared.Record.{Record}

-- the head, and the byte after it
unfoldable pub head_of : Result (Record × ℕ) Fault → Result (Head × ℕ) Fault
head_of (Ok (R.Head h, next)) = Ok (h, next)
head_of (Ok (R.Map start len, next)) = Err NoHead
head_of (Ok (R.Block i, next)) = Err NoHead
head_of (Ok (R.Instruction i, next)) = Err NoHead
head_of (Ok (R.Terminator t, next)) = Err NoHead
head_of (Err f) = Err f

-- the map's record at a byte: where its name lies, and the byte after it
unfoldable pub map_of : ℕ → Result (Record × ℕ) Fault → Result MapAt Fault
map_of at (Ok (R.Map start len, next)) = Ok (record { start = start; len = len; next = next })
map_of at (Ok (R.Head h, next)) = Err (NotDue at)
map_of at (Ok (R.Block i, next)) = Err (NotDue at)
map_of at (Ok (R.Instruction i, next)) = Err (NotDue at)
map_of at (Ok (R.Terminator t, next)) = Err (NotDue at)
map_of at (Err f) = Err f

unfoldable pub map_at : List ℕ → ℕ → Result MapAt Fault
map_at b at = map_of at (read_record b at Du.Map 0)

unfoldable pub on_map_at : {A : Type 0} → Result MapAt Fault → (ℕ → ℕ → ℕ → A) → A → A
on_map_at (Ok map) go other = go map.start map.len map.next
on_map_at (Err f) go other = other

-- the map after k from a byte on
unfoldable pub map_from : List ℕ → ℕ → ℕ → Result MapAt Fault
map_from b at zero = map_at b at
map_from b at (suc k) = on_map_at (map_at b at) (λ start len next. map_from b next k) (map_at b at)

-- the head, and where the blocks begin
unfoldable pub body_of : Opened → Result (Head × ℕ) Fault
body_of (opened h names at) = Ok (h, at)
body_of (shut f) = Err f
