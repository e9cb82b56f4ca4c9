-- Registers as a mask, bit r for register r, and what the program takes from an instruction.
use Rattle.std.specs.Prelude.{ℕ, zero, suc, ◌+◌, ◌-◌, ◌*◌, Option, Some, None, List, eqb}
use Rattle.std.specs.Int.Bits.{bit_and}
use Rattle.wire.specs.Pick.{pick}
use Rattle.insn.specs.declared.Insn.{Insn}
use Rattle.insn.specs.declared.form.Form.{Form}
use Rattle.insn.specs.declared.form.Form.TheVariants.{NoForm, WideLoad, Ldx, Stx, AluImm, AluReg, MovImm, MovReg, Ja, JeqImm, JneImm, Call, Exit}
use Rattle.shape.specs.Code.{at, form_at}
use Rattle.shape.specs.Shape.{target, landing}
use Rattle.paths.specs.Registers.{Regs, reads}
use Rattle.paths.specs.declared.node.Node.{Node}
use Rattle.paths.specs.declared.node.Flow.{Flow}
use Rattle.paths.specs.declared.node.Flow.TheVariants.{Stops, Keeps, Writes, WritesWide, Calls, Jumps, Branches}

-- the registers of m below k: bit r is set exactly where m r is true
unfoldable pub mask : Regs → ℕ → ℕ
mask m zero = 0
mask m (suc k) = pick (m 0) 1 0 + 2 * mask (λ r. m (suc r)) k

-- the registers 0 to 10 that the instruction at slot s reads
unfoldable pub read_mask : List ℕ → ℕ → ℕ
read_mask b s = mask (reads (form_at b s) (at b s)) 11

-- of the registers in need those that are not in x
abbrev pub lacking : ℕ → ℕ → ℕ
lacking need x = bit_and need (2047 - x)

-- one register
unfoldable pub only : ℕ → Regs
only x r = eqb r x

-- what an instruction does to a path, by its form
unfoldable pub flow_of : Form → Flow
flow_of NoForm = Stops
flow_of WideLoad = WritesWide
flow_of (Ldx s) = Writes
flow_of (Stx s) = Keeps
flow_of (AluImm o) = Writes
flow_of (AluReg o) = Writes
flow_of MovImm = Writes
flow_of MovReg = Writes
flow_of Ja = Jumps
flow_of JeqImm = Branches
flow_of JneImm = Branches
flow_of Call = Calls
flow_of Exit = Stops

abbrev pub leading : Option ℕ → Option ℕ → ℕ → ℕ → Node
leading on to keep made = record { on = on; to = to; keep = keep; made = made }

-- where a path leads from slot s, which bits of a mask are kept, and which are put to it: a call takes R0 to R5 away, and makes R0
unfoldable pub node_of : ℕ → Insn → Flow → Node
node_of s i Stops = leading None None 4095 0
node_of s i Keeps = leading (Some (s + 1)) None 4095 0
node_of s i Writes = leading (Some (s + 1)) None 4095 (mask (only i.dst) 11)
node_of s i WritesWide = leading (Some (s + 2)) None 4095 (mask (only i.dst) 11)
node_of s i Calls = leading (Some (s + 1)) None 4032 1
node_of s i Jumps = leading None (landing (target s i.off)) 4095 0
node_of s i Branches = leading (Some (s + 1)) (landing (target s i.off)) 4095 0

unfoldable pub node_at : List ℕ → ℕ → Node
node_at b s = node_of s (at b s) (flow_of (form_at b s))
