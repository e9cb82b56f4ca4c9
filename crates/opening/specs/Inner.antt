-- What the crate's private functions answer, between the bytes and the names. No public promise names these.
use Rattle.std.specs.Prelude.{◌≡◌, ℕ, zero, suc, ◌+◌, ◌*◌, ◌%◌, ◌≤◌, Bool, true, false, List, [], eqb, length, take, set, map, Err, Ok, Result}
use Rattle.std.specs.List.{fold, list_any}
use Rattle.wire.specs.Pick.{pick}
use Rattle.record.specs.Frame.{length_at, whole_at, next_at}
use Rattle.record.specs.declared.Fault.TheVariants.{Broken, NoHead, NotDue}
use Rattle.opening.specs.declared.MapAt.{MapAt}
use Rattle.opening.specs.Names.{same_name, part, Names, named, refused, names_at}
use Rattle.record.specs.declared.Fault.{Fault}
use Rattle.record.specs.declared.Head.{Head}
use Rattle.record.specs.declared.Record.{Record}

-- a map's name lies in n bytes
unfoldable pub Lies : ℕ → Result MapAt Fault → Type 0
Lies n (Ok map) = map.start + map.len ≤ n
Lies n (Err f) = Unit {0}

-- one of the k records from a byte on, which are maps', has the name
unfoldable pub taken_from : List ℕ → List ℕ → ℕ → ℕ → Bool
taken_from b name at zero = false
taken_from b name at (suc k) = pick (whole_at b at) (pick (same_name name (part (at + 4) (length_at b at) b)) true (taken_from b name (next_at b at) k)) false

-- a name's signature: a number made of its length and its bytes
abbrev pub signature_of : List ℕ → ℕ
signature_of name = fold (λ mix x. mix % 72057594037927936 * 251 + x) (length name) name

abbrev pub signatures_of : List (List ℕ) → List ℕ
signatures_of = map signature_of

abbrev pub contains : List ℕ → ℕ → Bool
contains l x = list_any (λ y. eqb y x) l

-- the k maps from the first on were read, up to a byte, and a table begins with their names' signatures
pub record Signed (b : List ℕ) (first k at : ℕ) (table : List ℕ) : Type 0 where
  pub names : List (List ℕ)
  pub read : names_at b [] first k ≡ named names at
  pub signed : take k table ≡ signatures_of names

-- the table with the signature of one more
unfoldable pub signed_with : List ℕ → List ℕ → ℕ → Result MapAt Fault → List ℕ
signed_with b table k (Ok map) = set table k (signature_of (part map.start map.len b))
signed_with b table k (Err f) = table

-- the map at a byte is one more after the k from the first on
unfoldable pub one_more : List ℕ → ℕ → ℕ → ℕ → Result MapAt Fault → Result ℕ Fault
one_more b first k at (Ok map) = pick (taken_from b (part map.start map.len b) first k) (Err (Broken at)) (Ok map.next)
one_more b first k at (Err f) = Err f

-- the byte after the maps
unfoldable pub maps_of : Names → Result ℕ Fault
maps_of (named names at) = Ok at
maps_of (refused f) = Err f
