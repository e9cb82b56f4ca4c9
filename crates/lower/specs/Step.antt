-- One instruction that may be refused, pieces of several, and what putting them leaves.
use Rattle.std.specs.Prelude.{ℕ, ◌+◌, ◌≤◌, ◌≡◌, Bool, true, false, List, [], ◌∷◌, ◌++◌, ℤ, pos, length, Err, None, Ok, Option, Result, Some}
use Rattle.wire.specs.Number.{bytes_before}
use Rattle.wire.specs.Pick.{pick}
use Rattle.wire.specs.Range.{fits32}
use Rattle.ir.specs.declared.Operand.{Operand}
use Rattle.ir.specs.declared.Operand.TheVariants.{Var, Immediate}
use Rattle.insn.specs.Layout.{insn_of}
use Rattle.insn.specs.declared.form.Size.TheVariants.{Dw}
use Rattle.insn.specs.declared.form.Form.TheVariants.{Stx, Ja, JeqImm, Exit}
use Rattle.frame.specs.Cell.{Frame}
use Rattle.lower.specs.Op.{Op, plain, map, Lowered, becomes, refused, insn, slots_of, ◌▸◌}
use Rattle.lower.specs.Operand.{constant, move, add, on_cell}
use Rattle.lower.specs.Put.{insns_in, put_at, put_lowered}
use Rattle.lower.specs.Held.{held}
use Rattle.lower.specs.declared.Reason.{Reason}
use Rattle.lower.specs.declared.Reason.TheVariants as Re
use Rattle.lower.specs.declared.Emitted.{Emitted}
use Rattle.lower.specs.declared.piece.Piece.{Piece}
use Rattle.lower.specs.declared.piece.Piece.TheVariants as P
use Rattle.insn.specs.declared.Insn.{Insn}

-- ---- steps and pieces

-- what a step becomes
unfoldable pub step_of : Result Insn Reason → Lowered
step_of (Ok i) = becomes (plain i ∷ [])
step_of (Err r) = refused r

-- words one after the other, each an instruction
unfoldable pub ops_in : List ℕ → List Op
ops_in [] = []
ops_in (w ∷ l) = plain (insn_of w) ∷ ops_in l

unfoldable pub words : List ℕ → Lowered
words l = becomes (ops_in l)

-- what a word becomes
unfoldable pub word_is : Result ℕ Reason → Lowered
word_is (Ok w) = words (w ∷ [])
word_is (Err r) = refused r

-- what a piece becomes
unfoldable pub ops_of : Piece → List Op
ops_of P.Nothing = []
ops_of (P.One a) = plain (insn_of a) ∷ []
ops_of (P.Two a b) = plain (insn_of a) ∷ plain (insn_of b) ∷ []

unfoldable pub piece_of : Result Piece Reason → Lowered
piece_of (Ok p) = becomes (ops_of p)
piece_of (Err r) = refused r

unfoldable pub one : ℕ → ℕ → ℕ → ℤ → ℤ → Lowered
one code dst src off imm = becomes (plain (record { code = code; dst = dst; src = src; off = off; imm = imm }) ∷ [])

-- an instruction with a constant, which is checked
unfoldable pub with_constant : ℕ → ℕ → ℤ → Lowered
with_constant code r z = pick (fits32 z) (one code r 0 (pos 0) z) (refused (Re.Immediate z))

-- "addr r" in two: an immediate put into scratch, and the address taken
unfoldable pub addr_put : Frame → ℕ → ℕ → Operand → Lowered
addr_put f j r (Var v) = becomes []
addr_put f j r (Immediate z) = constant r z ▸ insn (Stx Dw) 10 r (f.scratch j) (pos 0)

unfoldable pub addr_take : Frame → ℕ → ℕ → Operand → Lowered
addr_take f j r (Var v) = on_cell v (f.cell v) (λ cell. move r 10 ▸ add r cell)
addr_take f j r (Immediate z) = move r 10 ▸ add r (f.scratch j)

-- NullCheck in three: the test, what is done where R0 is 0, and the rest
unfoldable pub null_test : Bool → Lowered
null_test true = insn JeqImm 0 0 (pos 2) (pos 0) ▸ constant 0 (pos 1)
null_test false = insn JeqImm 0 0 (pos 1) (pos 0) ▸ insn Ja 0 0 (pos 2) (pos 0)

unfoldable pub null_zero : Bool → Lowered
null_zero true = insn Ja 0 0 (pos 1) (pos 0) ▸ constant 0 (pos 0)
null_zero false = constant 0 (pos 0) ▸ insn Exit 0 0 (pos 0) (pos 0)

unfoldable pub null_rest : Bool → Lowered
null_rest true = becomes []
null_rest false = constant 0 (pos 1)

-- ---- pieces one after the other

-- operations, and then those of pieces
unfoldable pub chain : List Op → List Piece → List Op
chain l [] = l
chain l (p ∷ t) = chain (l ++ ops_of p) t

-- the load of a map's address, where there is one
unfoldable pub map_ops : Option ℕ → List Op
map_ops None = []
map_ops (Some m) = map m ∷ []

-- b is b₀ with the instructions of l from `at` on, which fill so many slots
pub record Holds (b₀ : List ℕ) (at : ℕ) (l : List Op) (b : List ℕ) (slots : ℕ) : Type 0 where
  pub code : b ≡ put_at b₀ at (insns_in l)
  pub filled : slots ≡ slots_of l
  pub even : length (insns_in l) ≡ slots_of l

-- the piece p put from a slot on, and the slot after it
pub record PutPiece (b₀ : List ℕ) (at slot : ℕ) (p : Piece) (b : List ℕ) (after : ℕ) : Type 0 where
  pub code : b ≡ put_at b₀ (at + bytes_before slot) (insns_in (ops_of p))
  pub next : after ≡ slot + slots_of (ops_of p)
  pub most : after ≤ slot + 2

-- what x becomes is put from `at` on, and told
pub record Puts (b₀ : List ℕ) (at : ℕ) (x : Lowered) (b : List ℕ) (e : Result Emitted Reason) : Type 0 where
  pub code : b ≡ put_lowered b₀ at x
  pub answer : e ≡ held x
