-- What the passes over a unit leave in the arrays they share: tables by block number.
use Rattle.std.specs.Prelude.{◌≡◌, Bool, false, List, ℕ, ◌*◌, ◌≤◌, ◌<◌, length, get_or, Err, None, Ok, Option, Result, Some}
use Rattle.std.proofs.lemmas.List.Edits.{sets}
use Rattle.wire.specs.Number.{bytes_before}
use Rattle.wire.specs.Pick.{pick}
use Rattle.wire.specs.Range.{fits32}
use Rattle.ir.specs.declared.Operand.{Operand}
use Rattle.ir.specs.declared.Operand.TheVariants.{Var, Immediate}
use Rattle.unitfile.specs.Unit.{BasicBlock}
use Rattle.flow.specs.Computed.{is_reached}
use Rattle.flow.specs.Linked.{number_from}
use Rattle.survey.specs.Surveyed as survey
use Rattle.lower.specs.Op.{Op, slots_of}
use Rattle.lower.specs.declared.Reason.TheVariants as Re
use Rattle.lower.specs.declared.Emitted.{Emitted}
use Rattle.layout.specs.Emitted.{nodes}
use Rattle.layout.specs.Layout.{Laid, laid, refused_at, Context, unit_ops, ops}
use Rattle.layout.specs.Jumps.{Landing, starts, jumps, landing}
use Rattle.layout.specs.Inner as layout
use Rattle.layout.specs.Inner.{keep_by, maps_of}
use Rattle.passes.specs.Notes.{counts_of, pairs_of}
use Rattle.lower.specs.declared.Reason.{Reason}

-- how many slots and relocations there are, or the first refusal and its place
unfoldable pub size_of : Laid → Result (ℕ × ℕ) (ℕ × Reason)
size_of (laid l) = Ok (slots_of l, maps_of l)
size_of (refused_at place r) = Err (place, r)

-- the same by what an instruction takes
unfoldable pub relocs_by : Option ℕ → ℕ
relocs_by None = 0
relocs_by (Some m) = 1

unfoldable pub size_by : ℕ → Result Emitted Reason → Result (ℕ × ℕ) (ℕ × Reason)
size_by place (Ok e) = Ok (e.slots, relocs_by e.map)
size_by place (Err r) = Err (place, r)

-- of a terminator that loads an operand: a constant outside i32 is refused, and a variable is told to have a cell
unfoldable pub load_size : ℕ → Operand → ℕ → Result (ℕ × ℕ) (ℕ × Reason)
load_size place (Var v) n = Ok (n, 0)
load_size place (Immediate z) n = pick (fits32 z) (Ok (n, 0)) (Err (place, Re.Immediate z))

-- of one record: a map's load and eleven instructions at most
pub record Sized (l : Laid) (r : Result (ℕ × ℕ) (ℕ × Reason)) : Type 0 where
  pub size : r ≡ size_of l
  pub few : (n m : ℕ) → r ≡ Ok (n, m) → (n ≤ 13) × (m ≤ 1)

-- ls: the slots at which the blocks begin, then the slot after the last
pub record Measured (c : Context) (e : ℕ → Bool) (bs : List BasicBlock) (ls : List ℕ) (r : Result (ℕ × ℕ) (ℕ × Reason)) (ls' : List ℕ) : Type 0 where
  pub size : r ≡ size_of (unit_ops c (keep_by e 0 bs))
  pub edges : (l : List Op) → unit_ops c (keep_by e 0 bs) ≡ laid l → ls' ≡ sets ls 0 (layout.edges c e 0 0 1 bs)
  pub few : (n m : ℕ) → r ≡ Ok (n, m) → (n ≤ 851969) × (m ≤ 65536)

-- of block k: whether it is emitted; its first slot, and the next block's; the numbers of the last blocks with the ids that its terminator names
pub record Tables (c : Context) (e : ℕ → Bool) (bs : List BasicBlock) (edges numbers : List ℕ) : Type 0 where
  pub few : length bs ≤ 1024
  pub fine : unit_ops c (keep_by e 0 bs) ≡ laid (ops (unit_ops c (keep_by e 0 bs)))
  pub agrees : (k : ℕ) → k < length bs → e k ≡ is_reached (nodes bs) (get_or (survey.ids bs) k 0)
  pub past : e 1024 ≡ false
  pub edge : (k : ℕ) → k ≤ length bs → get_or edges k 0 ≡ get_or (layout.edges c e 0 0 1 bs) k 0
  pub number : (k : ℕ) → k < 2 * length bs → get_or numbers k 0 ≡ number_from 0 (survey.ids bs) (get_or (pairs_of bs) k 0)

-- of block k's terminator: its place, how many ids it names, and the ids
pub record Endings (bs : List BasicBlock) (endings counts named : List ℕ) : Type 0 where
  pub ending : (k : ℕ) → k < length bs → get_or endings k 0 ≡ get_or (survey.endings bs) k 0
  pub count : (k : ℕ) → k < length bs → get_or counts k 0 ≡ get_or (counts_of bs) k 0
  pub names : (k : ℕ) → k < 2 * length bs → get_or named k 0 ≡ get_or (pairs_of bs) k 0

-- where the jumps land
abbrev pub unit_landing : Context → (ℕ → Bool) → List BasicBlock → Landing
unit_landing c e bs = landing (starts c (keep_by e 0 bs)) (jumps c (keep_by e 0 bs))

-- there is room for a unit's code and its relocations, in bytes and in u32s
pub record Room (l : List Op) (bytes numbers : ℕ) : Type 0 where
  pub few : slots_of l ≤ 851969
  pub code : bytes_before (slots_of l) ≤ bytes
  pub relocs : 2 * maps_of l ≤ numbers
