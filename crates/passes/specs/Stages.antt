-- What the passes hand on to one another.
use Rattle.std.specs.Prelude.{ℕ, ◌*◌, ◌≤◌, ◌<◌, ◌≡◌, Bool, false, List, length, get_or, take, Ok}
use Rattle.unitfile.specs.Unit.{BasicBlock, parse, read_unit}
use Rattle.unitfile.specs.declared.Found.{Found}
use Rattle.survey.specs.Collected.{all, collected}
use Rattle.survey.specs.Surveyed as survey
use Rattle.survey.specs.Surveyed.{blocks_of}
use Rattle.flow.specs.Computed.{is_reached}
use Rattle.flow.specs.Linked.{number_from}
use Rattle.lower.specs.Op.{slots_of}
use Rattle.layout.specs.Emitted.{nodes}
use Rattle.layout.specs.Layout.{Context, unit_ops, ops}
use Rattle.layout.specs.Jumps.{lands}
use Rattle.layout.specs.Inner.{keep_by, maps_of}
use Rattle.jumps.specs.Landed.{marked}
use Rattle.passes.specs.Notes.{pairs_of, EndsAt}
use Rattle.passes.specs.Tables.{Tables, Endings, unit_landing}

-- so long are lists that hold what is told of n blocks: their ids and their terminators' places, how many ids each terminator names, these and their numbers, which blocks are emitted, and where each begins
pub record Spacious (n is es cs ts ns em ls : ℕ) : Type 0 where
  pub ids : n ≤ is
  pub endings : n ≤ es
  pub counts : n ≤ cs
  pub named : 2 * n ≤ ts
  pub numbers : 2 * n ≤ ns
  pub emitted : n ≤ em
  pub most : em ≤ 1024
  pub edges : n < ls

-- a unit that was read whole, with all its variables, and its blocks' ids and terminators' places at the fronts of their lists
pub record Surveyed (b : List ℕ) (found : Found) (vs is es : List ℕ) : Type 0 where
  pub read : read_unit b ≡ Ok found
  pub collects : collected (blocks_of (parse b)) ≡ all vs
  pub ids : take (length (blocks_of (parse b))) is ≡ survey.ids (blocks_of (parse b))
  pub endings : EndsAt b es

-- then: which blocks are emitted, the numbers of the blocks that their targets mean, and what their terminators name
pub record Linked (bs : List BasicBlock) (emitted numbers endings counts named : List ℕ) : Type 0 where
  pub few : length bs ≤ 1024
  pub agrees : (k : ℕ) → k < length bs → marked emitted k ≡ is_reached (nodes bs) (get_or (survey.ids bs) k 0)
  pub past : marked emitted 1024 ≡ false
  pub number : (k : ℕ) → k < 2 * length bs → get_or numbers k 0 ≡ number_from 0 (survey.ids bs) (get_or (pairs_of bs) k 0)
  pub told : Endings bs endings counts named
  pub emitted_size : length bs ≤ length emitted
  pub numbers_size : 2 * length bs ≤ length numbers

-- then: a unit of which nothing is refused, how many slots and relocations it takes, and that its jumps land
pub record Ready (c : Context) (e : ℕ → Bool) (bs : List BasicBlock) (edges numbers : List ℕ) (n m : ℕ) : Type 0 where
  pub tables : Tables c e bs edges numbers
  pub lands : unit_landing c e bs ≡ lands
  pub slots : n ≡ slots_of (ops (unit_ops c (keep_by e 0 bs)))
  pub maps : m ≡ maps_of (ops (unit_ops c (keep_by e 0 bs)))
  pub few_slots : n ≤ 851969
  pub few_maps : m ≤ 65536
  pub numbers_size : 2 * length bs ≤ length numbers
