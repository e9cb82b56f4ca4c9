-- What a call of `compile_tracepoint` that is done leaves at the fronts of its buffers.
use Rattle.std.specs.Prelude.{ℕ, ◌*◌, ◌≤◌, ◌≡◌, List, length, take}
use Rattle.frame.specs.Cell.{frame_of}
use Rattle.unitfile.specs.Unit.{UnitIr}
use Rattle.survey.specs.Collected.{all, collected}
use Rattle.survey.specs.Conditions.{is_condition}
use Rattle.lower.specs.Op.{Op, slots_of}
use Rattle.layout.specs.Emitted.{emitted}
use Rattle.layout.specs.Layout.{laid, Context, unit_ops}
use Rattle.layout.specs.Jumps.{Start, lands, starts, jumps, landing}
use Rattle.layout.specs.Code.{insns, code_bytes, relocations}
use Rattle.tracepoint.specs.Compile.{Lowering, lowered, compile_code, compile_relocs}

-- the first n slots of the code buffer, and the first m pairs of the relocation buffer, after a call with the unit b
abbrev pub code_written : List ℕ → List ℕ → List ℕ → ℕ → List ℕ
code_written b code relocs n = take (8 * n) (compile_code b code (length relocs))

abbrev pub relocs_written : List ℕ → List ℕ → List ℕ → ℕ → List ℕ
relocs_written b code relocs m = take (2 * m) (compile_relocs b (length code) relocs)

-- what every lowering of a unit with these variables is given
abbrev pub context_of : UnitIr → List ℕ → Context
context_of u variables = record { frame = frame_of variables; condition = is_condition u.blocks }

-- the emitted blocks of u become the operations l, and every jump lands
pub record Lowers (u : UnitIr) (xs : List Start) (l : List Op) : Type 0 where
  pub variables : List ℕ
  pub collects : collected u.blocks ≡ all variables
  pub becomes : unit_ops (context_of u variables) (emitted u.blocks) ≡ laid l
  pub lands : landing (starts (context_of u variables) (emitted u.blocks)) (jumps (context_of u variables) (emitted u.blocks)) ≡ lands
  pub begins : starts (context_of u variables) (emitted u.blocks) ≡ xs

-- there is room for what is lowered: n slots, and m pairs of byte offset and map number
pub record Fits (code relocs : ℕ) (low : Lowering) (n m : ℕ) : Type 0 where
  pub starts : List Start
  pub ops : List Op
  pub is : low ≡ lowered starts ops
  pub slots : slots_of ops ≡ n
  pub pairs : length (relocations 0 ops) ≡ 2 * m
  pub code_room : 8 * n ≤ code
  pub relocs_room : 2 * m ≤ relocs

-- a call with the unit u left its code and its relocations
pub record Wrote (b code relocs : List ℕ) (n m : ℕ) (u : UnitIr) : Type 0 where
  pub starts : List Start
  pub ops : List Op
  pub lowers : Lowers u starts ops
  pub slots : slots_of ops ≡ n
  pub code_is : code_written b code relocs n ≡ code_bytes (insns starts 0 ops)
  pub relocs_are : relocs_written b code relocs m ≡ relocations 0 ops
