-- `compile_tracepoint`: the answer and both buffers at exit.
use Rattle.std.specs.Prelude.{ℕ, ◌/◌, List, [], leb, ℤ, pos, length, Err, Ok, Result}
use Rattle.std.proofs.lemmas.List.Edits.{sets}
use Rattle.wire.specs.Number.{bytes_before}
use Rattle.wire.specs.Pick.{pick}
use Rattle.wire.specs.declared.refusal.Refusal.{Refusal}
use Rattle.record.specs.Record as reading
use Rattle.frame.specs.Cell.{frame_of}
use Rattle.unitfile.specs.Unit.{UnitIr, BasicBlock, Parsed, parsed, refused, parse}
use Rattle.survey.specs.Collected.{Collected, all, too_many, collected}
use Rattle.survey.specs.Conditions.{is_condition}
use Rattle.layout.specs.Emitted.{emitted}
use Rattle.lower.specs.Op.{Op, slots_of}
use Rattle.lower.specs.declared.Reason.{Reason}
use Rattle.lower.specs.declared.Reason.TheVariants as Re
use Rattle.layout.specs.Layout.{Context, Laid, laid, refused_at, unit_ops}
use Rattle.layout.specs.Jumps.{Start, Landing, lands, no_target, too_far, starts, jumps, landing}
use Rattle.layout.specs.Code.{insns, code_bytes, relocations}
use Rattle.tracepoint.specs.declared.Fault.{Fault}
use Rattle.tracepoint.specs.declared.Fault.TheVariants as F

-- 01's number, place and value of each fault
abbrev pub told : ℕ → ℕ → ℤ → Refusal
told n p v = record { number = n; place = p; value = v }

unfoldable pub reason_refusal : ℕ → Reason → Refusal
reason_refusal place (Re.Count n) = told 11 place (pos n)
reason_refusal place (Re.Immediate z) = told 12 place z
reason_refusal place (Re.Offset z) = told 13 place z
reason_refusal place (Re.LoadSize n) = told 14 place (pos n)
reason_refusal place (Re.StoreSize n) = told 15 place (pos n)
reason_refusal place Re.Helper16 = told 16 place (pos 16)
reason_refusal place (Re.Helper id) = told 17 place (pos id)
reason_refusal place (Re.NoCell v) = told 20 place (pos v)

unfoldable pub refusal_of : Fault → Refusal
refusal_of (F.Reading f) = reading.refusal_of f
refusal_of (F.Variables place) = told 10 place (pos 57)
refusal_of (F.Instruction place r) = reason_refusal place r
refusal_of (F.NoTarget place id) = told 18 place (pos id)
refusal_of (F.TooFar place id) = told 19 place (pos id)
refusal_of (F.CodeRoom needed) = told 21 0 (pos needed)
refusal_of (F.RelocRoom needed) = told 22 0 (pos needed)

-- a unit's code: its operations, and where its blocks begin; or the fault
pub data Lowering : Type 0 where
  lowered : List Start → List Op → Lowering
  faulty : Fault → Lowering

unfoldable pub on_landing : Landing → List Start → List Op → Lowering
on_landing lands xs l = lowered xs l
on_landing (no_target place id) xs l = faulty (F.NoTarget place id)
on_landing (too_far place id) xs l = faulty (F.TooFar place id)

unfoldable pub on_laid : Context → List BasicBlock → Laid → Lowering
on_laid c bs (laid l) = on_landing (landing (starts c bs) (jumps c bs)) (starts c bs) l
on_laid c bs (refused_at place r) = faulty (F.Instruction place r)

-- 10, then the emitted blocks in file order, then 18 and 19 in patch order
unfoldable pub on_collected : List BasicBlock → Collected → Lowering
on_collected bs (all variables) =
    on_laid (record { frame = frame_of variables; condition = is_condition bs }) (emitted bs)
    (unit_ops (record { frame = frame_of variables; condition = is_condition bs }) (emitted bs))
on_collected bs (too_many place variables) = faulty (F.Variables place)

unfoldable pub lowering : UnitIr → Lowering
lowering u = on_collected u.blocks (collected u.blocks)

unfoldable pub lowering_of : Parsed → Lowering
lowering_of (parsed u) = lowering u
lowering_of (refused f) = faulty (F.Reading f)

-- then 21 and 22, by the rooms: bytes of the code buffer, u32s of the relocation buffer
unfoldable pub roomed : ℕ → ℕ → Lowering → Result (ℕ × ℕ) Fault
roomed code relocs (faulty f) = Err f
roomed code relocs (lowered xs l) =
    pick (leb (bytes_before (slots_of l)) code)
    (pick (leb (length (relocations 0 l)) relocs) (Ok (slots_of l, length (relocations 0 l) / 2)) (Err (F.RelocRoom (length (relocations 0 l)))))
    (Err (F.CodeRoom (bytes_before (slots_of l))))

unfoldable pub compile_answer : List ℕ → ℕ → ℕ → Result (ℕ × ℕ) Fault
compile_answer b code relocs = roomed code relocs (lowering_of (parse b))

-- the buffers: the code's bytes, and the pairs, at the front of theirs; a refused call changes none
unfoldable pub code_of : Lowering → List ℕ
code_of (lowered xs l) = code_bytes (insns xs 0 l)
code_of (faulty f) = []

unfoldable pub relocs_of : Lowering → List ℕ
relocs_of (lowered xs l) = relocations 0 l
relocs_of (faulty f) = []

unfoldable pub front : Result (ℕ × ℕ) Fault → List ℕ → List ℕ → List ℕ
front (Ok (slots, relocs)) new buffer = sets buffer 0 new
front (Err f) new buffer = buffer

unfoldable pub compile_code : List ℕ → List ℕ → ℕ → List ℕ
compile_code b code relocs = front (compile_answer b (length code) relocs) (code_of (lowering_of (parse b))) code

unfoldable pub compile_relocs : List ℕ → ℕ → List ℕ → List ℕ
compile_relocs b code relocs = front (compile_answer b code (length relocs)) (relocs_of (lowering_of (parse b))) relocs
