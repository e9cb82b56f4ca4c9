-- The shape rules 32 to 36 of one instruction, lowest number first.
use Rattle.std.specs.Prelude.{ℕ, suc, ◌%◌, Bool, true, false, Option, Some, None, List, eqb, leb, ltb, ℤ, pos, negsuc, ◌+ℤ◌, Err, Ok, Result, ⊤}
use Rattle.wire.specs.Pick.{pick, both, not, implies, is_zero}
use Rattle.insn.specs.Helper.{helper_of, is_helper}
use Rattle.insn.specs.declared.Insn.{Insn}
use Rattle.shape.specs.Code.{slots, at, form_at, start}
use Rattle.shape.specs.Fields.{Uses, uses, Kind, none, wide, load, store, call, other}
use Rattle.shape.specs.declared.Shape.{Shape}
use Rattle.shape.specs.declared.Shape.TheVariants as S

-- a slot that is all zero
unfoldable pub all_zero : Insn → Bool
all_zero i = both (eqb i.code 0) (both (eqb i.dst 0) (both (eqb i.src 0) (both (is_zero i.off) (is_zero i.imm))))

-- 32: not one of the 30 opcodes; a helper that is none of the table; a wide form that is cut, has src not 1, imm not 0, or a second slot not all zero
unfoldable pub known : List ℕ → ℕ → Kind → Bool
known b s none = false
known b s wide = both (ltb (suc s) (slots b)) (both (eqb (at b s).src 1) (both (is_zero (at b s).imm) (all_zero (at b (suc s)))))
known b s (load w) = true
known b s (store w) = true
known b s call = is_helper (helper_of (at b s).imm)
known b s other = true

-- 33: a used register field above 10, or R10 written
unfoldable pub registers_ok : Insn → Uses → Bool
registers_ok i u =
    both (implies u.dst (leb i.dst 10)) (both (implies u.src (leb i.src 10)) (implies u.writes (not (eqb i.dst 10))))

-- 34: an unused field not zero
unfoldable pub unused_zero : Insn → Uses → Bool
unused_zero i u =
    both (implies (not u.dst) (eqb i.dst 0))
    (both (implies (not u.src) (eqb i.src 0)) (both (implies (not u.off) (is_zero i.off)) (implies (not u.imm) (is_zero i.imm))))

-- 35: an access of w bytes at offset o: −512 ≤ o, o + w ≤ 0, w divides o
unfoldable pub in_frame : ℤ → ℕ → Bool
in_frame (pos n) w = false
in_frame (negsuc n) w = both (leb (suc n) 512) (both (leb w (suc n)) (eqb (suc n % w) 0))

-- an access through R10
unfoldable pub access_ok : Insn → Kind → Bool
access_ok i none = true
access_ok i wide = true
access_ok i (load w) = implies (eqb i.src 10) (in_frame i.off w)
access_ok i (store w) = implies (eqb i.dst 10) (in_frame i.off w)
access_ok i call = true
access_ok i other = true

-- the slot a jump at slot s goes to
unfoldable pub target : ℕ → ℤ → ℤ
target s off = pos (suc s) +ℤ off

-- that slot, unless it lies before the first
unfoldable pub landing : ℤ → Option ℕ
landing (pos t) = Some t
landing (negsuc t) = None

-- 36: a jump to no instruction start
unfoldable pub is_start : List ℕ → ℤ → Bool
is_start b (pos t) = both (ltb t (slots b)) (start b t)
is_start b (negsuc t) = false

-- the first rule that does not hold
unfoldable pub first_broken : Bool → Bool → Bool → Bool → Bool → Result ⊤ Shape
first_broken known registers unused access target =
    pick known (pick registers (pick unused (pick access (pick target (Ok tt) (Err S.Target)) (Err S.Access)) (Err S.Unused)) (Err S.Register)) (Err S.Unknown)

-- the fault of the instruction i at a slot
unfoldable pub shape_of : List ℕ → ℕ → Insn → Uses → Result ⊤ Shape
shape_of b s i u =
    first_broken (known b s u.kind) (registers_ok i u) (unused_zero i u) (access_ok i u.kind) (implies u.jumps (is_start b (target s i.off)))

unfoldable pub shape_at : List ℕ → ℕ → Result ⊤ Shape
shape_at b s = shape_of b s (at b s) (uses (form_at b s))
