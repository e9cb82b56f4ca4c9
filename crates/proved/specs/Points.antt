-- The units of 01's known points, each as its records; their bytes are the record writer's.
use Rattle.std.specs.Prelude.{ℕ, zero, suc, List, [], ◌∷◌, ◌++◌, ℤ, pos}
use Rattle.ir.specs.declared.Operand.TheVariants.{Var, Immediate}
use Rattle.ir.specs.declared.Opcode.{Opcode}
use Rattle.ir.specs.declared.Opcode.TheVariants as C
use Rattle.ir.specs.declared.Terminator.TheVariants.{Return, Jump, Branch}
use Rattle.ir.specs.declared.operands.Operands.{Operands}
use Rattle.ir.specs.declared.operands.Operands.TheVariants.{Zero, One}
use Rattle.record.specs.declared.Record.{Record}
use Rattle.record.specs.declared.Record.TheVariants as R
use Rattle.recordwriter.specs.Bytes.{record_bytes}

unfoldable pub together : List ℕ → List Record → List ℕ
together names [] = []
together names (r ∷ rs) = record_bytes names r ++ together names rs

-- a unit of so many maps and blocks
unfoldable pub unit : ℕ → ℕ → List ℕ → List Record → List ℕ
unit maps blocks names rs = together names (R.Head (record { edition = 1; maps = maps; blocks = blocks }) ∷ rs)

abbrev pub constant : ℤ → Record
constant z = R.Terminator (Return (Immediate z))

abbrev pub returns : ℕ → Record
returns n = constant (pos n)

abbrev pub jump : ℕ → Record
jump id = R.Terminator (Jump id)

abbrev pub instruction : ℕ → Opcode → Operands → Record
instruction result opcode operands = R.Instruction (record { result = result; opcode = opcode; operands = operands })

-- P1: one block, return 0
unfoldable pub p1 : List ℕ
p1 = unit 0 1 [] (R.Block 1 ∷ returns 0 ∷ [])

-- "seen"
abbrev pub seen : List ℕ
seen = 0x73 ∷ 0x65 ∷ 0x65 ∷ 0x6e ∷ []

-- P2: map "seen", block 1, CallMap result 4, immediate key 5, return variable 4
unfoldable pub p2 : List ℕ
p2 =
    unit 1 1 seen
    (R.Map 0 4 ∷ R.Block 1 ∷ instruction 4 (C.CallMap 0) (One (Immediate (pos 5))) ∷ R.Terminator (Return (Var 4)) ∷ [])

-- P3: no blocks
unfoldable pub p3 : List ℕ
p3 = unit 0 0 [] []

-- P4: one block jumping to itself
unfoldable pub p4 : List ℕ
p4 = unit 0 1 [] (R.Block 1 ∷ jump 1 ∷ [])

-- P5: ids 1 (jump 2), 2 (return 1), 2 (return 2)
unfoldable pub p5 : List ℕ
p5 = unit 0 3 [] (R.Block 1 ∷ jump 2 ∷ R.Block 2 ∷ returns 1 ∷ R.Block 2 ∷ returns 2 ∷ [])

-- P6: ids 1 (jump 2), 1 (return 0), 2 (return 0)
unfoldable pub p6 : List ℕ
p6 = unit 0 3 [] (R.Block 1 ∷ jump 2 ∷ R.Block 1 ∷ returns 0 ∷ R.Block 2 ∷ returns 0 ∷ [])

-- P7: n variables, the results of n calls of helper 5
unfoldable pub calls : ℕ → List Record
calls zero = []
calls (suc n) = instruction n (C.HelperCall 5) Zero ∷ calls n

unfoldable pub p7 : ℕ → List ℕ
p7 n = unit 0 1 [] (R.Block 1 ∷ calls n ++ (returns 0 ∷ []))

-- P8: return an immediate
unfoldable pub p8 : ℤ → List ℕ
p8 z = unit 0 1 [] (R.Block 1 ∷ constant z ∷ [])

-- P9: LoadCtx of an offset and a size
unfoldable pub p9 : ℤ → ℕ → List ℕ
p9 offset size = unit 0 1 [] (R.Block 1 ∷ instruction 1 (C.LoadCtx offset size) Zero ∷ returns 0 ∷ [])

-- P10: a branch whose targets, 7 and 8, are both missing
unfoldable pub p10 : List ℕ
p10 = unit 0 1 [] (R.Block 1 ∷ R.Terminator (Branch (Immediate (pos 1)) 7 8) ∷ [])
