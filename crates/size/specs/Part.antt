-- What the parts of an instruction take.
use Rattle.std.specs.Prelude.{ℕ, List, eqb, ℤ, Err, None, Ok, Option, Result, ⊤}
use Rattle.wire.specs.Le.{byte_at}
use Rattle.wire.specs.Pick.{pick}
use Rattle.wire.specs.Range.{fits32}
use Rattle.ir.specs.declared.Operand.{Operand}
use Rattle.ir.specs.declared.Operand.TheVariants.{Var, Immediate}
use Rattle.operand.specs.Operand.{operand_in}
use Rattle.lower.specs.declared.Reason.TheVariants as Re
use Rattle.lower.specs.declared.Emitted.{Emitted}
use Rattle.lower.specs.declared.Reason.{Reason}

-- the first refusal of two
unfoldable pub first_of : Result ⊤ Reason → Result ⊤ Reason → Result ⊤ Reason
first_of (Ok _) p = p
first_of (Err r) p = Err r

-- a map and so many slots, where nothing is refused
unfoldable pub takes : Result ⊤ Reason → Option ℕ → ℕ → Result Emitted Reason
takes (Ok _) map slots = Ok (record { map = map; slots = slots })
takes (Err r) map slots = Err r

-- a constant outside i32 is refused, and an operand that is one
unfoldable pub of_constant : ℤ → Result ⊤ Reason
of_constant z = pick (fits32 z) (Ok tt) (Err (Re.Immediate z))

unfoldable pub of_operand : Operand → Result ⊤ Reason
of_operand (Var v) = Ok tt
of_operand (Immediate z) = of_constant z

-- the slots of "addr", and of Binary's operation with its second operand
unfoldable pub address_slots : Operand → ℕ
address_slots (Var v) = 2
address_slots (Immediate z) = 4

unfoldable pub operate_slots : Operand → ℕ
operate_slots (Var v) = 2
operate_slots (Immediate z) = 1

-- the instruction in a payload that needs its first operand and takes so many slots
unfoldable pub of_first : List ℕ → ℕ → Result Emitted Reason
of_first p slots = pick (eqb (byte_at p 6) 0) (Err (Re.Count 0)) (takes (of_operand (operand_in p 16)) None slots)

-- a helper that takes no operands, and one that takes three
unfoldable pub of_none : List ℕ → Result Emitted Reason
of_none p = pick (eqb (byte_at p 6) 0) (takes (Ok tt) None 2) (Err (Re.Count (byte_at p 6)))

unfoldable pub of_three : List ℕ → Result Emitted Reason
of_three p =
    pick (eqb (byte_at p 6) 3)
    (takes (first_of (first_of (of_operand (operand_in p 16)) (of_operand (operand_in p 25))) (of_operand (operand_in p 34))) None 5)
    (Err (Re.Count (byte_at p 6)))
