-- The records of a unit's blocks, one after the other: per block one block record, its instructions, one terminator.
use Rattle.std.specs.Prelude.{ℕ, zero, suc, ◌-◌, Bool, true, false, List, [], ◌∷◌, eqb, length, Err, Ok, Result}
use Rattle.wire.specs.Pick.{pick}
use Rattle.record.specs.Payload.{kind_of}
use Rattle.record.specs.Record.{read_record}
use Rattle.record.specs.declared.Record.{Record}
use Rattle.record.specs.declared.Due.TheVariants as Du
use Rattle.record.specs.declared.Fault.{Fault}
use Rattle.record.specs.declared.Fault.TheVariants.{NotDue}

-- where reading stands among the blocks: at which byte, how many blocks are still due, and whether one is open
pub record Cursor : Type 0 where
  pub at : ℕ
  pub blocks : ℕ
  pub inside : Bool

-- between blocks, with so many due
abbrev pub at_block : ℕ → ℕ → Cursor
at_block at blocks = record { at = at; blocks = blocks; inside = false }

-- inside a block, with so many due after it
abbrev pub in_block : ℕ → ℕ → Cursor
in_block at blocks = record { at = at; blocks = blocks; inside = true }

-- a record and where reading then stands, the end of the unit, or the refusal
pub data Step : Type 0 where
  go : Record → Cursor → Step
  end : Step
  stop : Fault → Step

-- what is due after a record of a kind: a block record opens a block, and after an instruction it is still open
unfoldable pub after : Cursor → ℕ → ℕ → Cursor
after c kind next =
    pick (eqb kind 3) (in_block next (c.blocks - 1)) (record { at = next; blocks = c.blocks; inside = eqb kind 4 })

unfoldable pub on_record : Cursor → Result (Record × ℕ) Fault → Step
on_record c (Ok (r, next)) = go r (after c (kind_of r) next)
on_record c (Err f) = stop f

-- inside a block an instruction or its terminator is due, else a block while one is left, else the end of the bytes
unfoldable pub next_record : List ℕ → ℕ → Cursor → Step
next_record b maps c =
    pick c.inside (on_record c (read_record b c.at Du.Inside maps))
    (pick (eqb c.blocks 0) (pick (eqb c.at (length b)) end (stop (NotDue c.at))) (on_record c (read_record b c.at Du.Block maps)))

-- a record and the byte at which it begins, which is its place
pub record Placed : Type 0 where
  pub place : ℕ
  pub value : Record

pub data Records : Type 0 where
  records : List Placed → Records
  refused : Fault → Records

unfoldable pub cons : Placed → Records → Records
cons p (records l) = records (p ∷ l)
cons p (refused f) = refused f

unfoldable pub on_step : ℕ → Step → (Cursor → Records) → Records
on_step at (go r c) rest = cons (record { place = at; value = r }) (rest c)
on_step at end rest = records []
on_step at (stop f) rest = refused f

-- every record takes 4 bytes at least, so that there are fewer records than bytes
unfoldable pub up_to : ℕ → List ℕ → ℕ → Cursor → Records
up_to zero b maps c = refused (NotDue c.at)
up_to (suc n) b maps c = on_step c.at (next_record b maps c) (λ d. up_to n b maps d)

-- the records from a cursor on
unfoldable pub records_from : List ℕ → ℕ → Cursor → Records
records_from b maps c = up_to (suc (length b)) b maps c
