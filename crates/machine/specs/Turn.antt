-- One step of RFC 9669: what an instruction shows to the outside, and what it does, given the outside's answer.
use Rattle.std.specs.Prelude.{ℕ, suc, ◌+◌, ◌*◌, ◌^◌, List, [], ◌∷◌, eqb, leb, ℤ, pos, negsuc, take}
use Rattle.wire.specs.Pick.{pick}
use Rattle.wire.specs.Le.{bytes_of}
use Rattle.insn.specs.Rfc.{width}
use Rattle.insn.specs.Form.{form_of}
use Rattle.insn.specs.Helper.{helper_of, arguments}
use Rattle.insn.specs.declared.Insn.{Insn}
use Rattle.insn.specs.declared.form.Form.{Form}
use Rattle.insn.specs.declared.form.Form.TheVariants.{NoForm, WideLoad, Ldx, Stx, AluImm, AluReg, MovImm, MovReg, Ja, JeqImm, JneImm, Call, Exit}
use Rattle.shape.specs.Shape.{target}
use Rattle.machine.specs.Word.{word, low, alu}
use Rattle.machine.specs.Memory.{Memory, reg, upd, address, loaded, stored}

-- ---- the outside

-- an access through a register other than R10, a store with its bytes, lowest first; a call with its helper's number, what the
-- argument registers of that helper hold, and the frame's cells
pub data Event : Type 0 where
  load : (address size : ℕ) → Event
  store : (address size : ℕ) (bytes : List ℕ) → Event
  call : (helper : ℤ) (arguments : List ℕ) (cells : ℕ → ℕ) → Event

-- what comes back: the number of a load, a map or a call; R1 to R5 after a call; what became of the frame by a call, or by a store
-- whose address may lie in it
pub record Answer : Type 0 where
  pub value : ℕ
  pub rest : ℕ → ℕ
  pub frame : (ℕ → ℕ) → ℕ → ℕ

-- ---- what a step does

-- to registers and frame
pub data Effect : Type 0 where
  keeps : Effect
  writes : (register value : ℕ) → Effect
  frame : (cells : ℕ → ℕ) → Effect
  calls : Answer → Effect

-- a call sets R0 to R5 and the frame, and nothing else
unfoldable pub after : Effect → Memory → Memory
after keeps m = m
after (writes d v) m = record { regs = upd m.regs d v; cells = m.cells }
after (frame c) m = record { regs = m.regs; cells = c }
after (calls a) m = record { regs = λ r. pick (leb r 5) (pick (eqb r 0) a.value (a.rest r)) (m.regs r); cells = a.frame m.cells }

-- it goes on at a slot; or returns a number; or there is no step
pub data Out : Type 0 where
  on : (slot : ℕ) → Effect → Out
  returns : ℕ → Out
  stuck : Out

-- ---- one step

-- it shows nothing; or takes the number of the map that the relocation of its slot names; or shows an event
pub data Turn : Type 0 where
  quiet : Out → Turn
  maps : (slot : ℕ) → (ℕ → Out) → Turn
  shows : Event → (Answer → Out) → Turn

-- a jump: no slot lies before slot 0
unfoldable pub jump : ℤ → Out
jump (pos t) = on t keeps
jump (negsuc t) = stuck

-- so many of R1 to R5, from R1 on
unfoldable pub first_of : Memory → ℕ → List ℕ
first_of m n = take n (m.regs 1 ∷ m.regs 2 ∷ m.regs 3 ∷ m.regs 4 ∷ m.regs 5 ∷ [])

-- the instruction i at slot s, where its unused fields are 0 (rule 34); high is the imm of the slot after it, p what R10 holds
unfoldable pub turn_of : ℕ → Form → Insn → ℤ → ℕ → Memory → Turn
turn_of p NoForm i high s m = quiet stuck
turn_of p WideLoad i high s m =
    pick (eqb i.src 0)
    (quiet (on (suc (suc s)) (writes i.dst (low 4 (word i.imm) + 2 ^ 32 * low 4 (word high)))))
    (maps s (λ x. on (suc (suc s)) (writes i.dst x)))
turn_of p (Ldx w) i high s m =
    pick (eqb i.src 10)
    (quiet (on (suc s) (writes i.dst (loaded (width w) i.off m.cells))))
    (shows (load (address p m i.src i.off) (width w)) (λ a. on (suc s) (writes i.dst (low (width w) a.value))))
turn_of p (Stx w) i high s m =
    pick (eqb i.dst 10)
    (quiet (on (suc s) (frame (stored (width w) i.off m.cells (reg p m i.src)))))
    (shows (store (address p m i.dst i.off) (width w) (bytes_of (width w) (reg p m i.src))) (λ a. on (suc s) (frame (a.frame m.cells))))
turn_of p (AluImm o) i high s m = quiet (on (suc s) (writes i.dst (alu o (reg p m i.dst) (word i.imm))))
turn_of p (AluReg o) i high s m = quiet (on (suc s) (writes i.dst (alu o (reg p m i.dst) (reg p m i.src))))
turn_of p MovImm i high s m = quiet (on (suc s) (writes i.dst (word i.imm)))
turn_of p MovReg i high s m = quiet (on (suc s) (writes i.dst (reg p m i.src)))
turn_of p Ja i high s m = quiet (jump (target s i.off))
turn_of p JeqImm i high s m = quiet (pick (eqb (reg p m i.dst) (word i.imm)) (jump (target s i.off)) (on (suc s) keeps))
turn_of p JneImm i high s m = quiet (pick (eqb (reg p m i.dst) (word i.imm)) (on (suc s) keeps) (jump (target s i.off)))
turn_of p Call i high s m = shows (call i.imm (first_of m (arguments (helper_of i.imm))) m.cells) (λ a. on (suc s) (calls a))
turn_of p Exit i high s m = quiet (returns (reg p m 0))

-- code is an instruction for each slot
unfoldable pub turn : ℕ → (ℕ → Insn) → ℕ → Memory → Turn
turn p code s m = turn_of p (form_of (code s).code) (code s) (code (suc s)).imm s m

-- with an answer, which a quiet step does not look at
unfoldable pub given : Answer → Turn → Out
given a (quiet o) = o
given a (maps s f) = f a.value
given a (shows e f) = f a

unfoldable pub step : ℕ → (ℕ → Insn) → Answer → ℕ → Memory → Out
step p code a s m = given a (turn p code s m)
