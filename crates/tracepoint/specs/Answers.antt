-- What the parts of `compile_tracepoint` answer, and leave in the buffers. No public promise names these.
use Rattle.std.specs.Prelude.{ℕ, ◌≡◌, Bool, List, length, Result}
use Rattle.unitfile.specs.Unit.{BasicBlock}
use Rattle.layout.specs.Layout.{Context, unit_ops, ops}
use Rattle.layout.specs.Jumps.{starts}
use Rattle.layout.specs.Inner.{keep_by}
use Rattle.tracepoint.specs.Compile.{Lowering, lowered, on_laid, roomed, code_of, relocs_of, front}
use Rattle.tracepoint.specs.declared.Fault.{Fault}

-- the lowering by which blocks are marked; and where nothing of it is refused
abbrev pub lowering_by : Context → (ℕ → Bool) → List BasicBlock → Lowering
lowering_by c e bs = on_laid c (keep_by e 0 bs) (unit_ops c (keep_by e 0 bs))

abbrev pub lowered_by : Context → (ℕ → Bool) → List BasicBlock → Lowering
lowered_by c e bs = lowered (starts c (keep_by e 0 bs)) (ops (unit_ops c (keep_by e 0 bs)))

-- what a lowering answers, and leaves in the buffers
pub record Answers (l : Lowering) (bytes numbers : List ℕ) (r : Result (ℕ × ℕ) Fault) (bytes' numbers' : List ℕ) : Type 0 where
  pub answer : r ≡ roomed (length bytes) (length numbers) l
  pub code : bytes' ≡ front r (code_of l) bytes
  pub relocs : numbers' ≡ front r (relocs_of l) numbers
