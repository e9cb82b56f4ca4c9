-- What an instruction asks of its operands, in the words of the lowering list.
use Rattle.std.specs.Prelude.{ℕ, Bool, true, eqb, leb}
use Rattle.wire.specs.Pick.{pick, either}
use Rattle.ir.specs.declared.Opcode.{Opcode}
use Rattle.ir.specs.declared.Opcode.TheVariants as C
use Rattle.opcode.specs.declared.asks.Asks.{Asks}
use Rattle.opcode.specs.declared.asks.Asks.TheVariants.{Nothing, First, Exactly}

-- 5, 14, 15, 35 take none; 114, 115 exactly 3; any other is refused whatever the count
unfoldable pub helper_asks : ℕ → Asks
helper_asks id =
    pick (either (either (eqb id 5) (eqb id 14)) (either (eqb id 15) (eqb id 35))) (Exactly 0)
    (pick (either (eqb id 114) (eqb id 115)) (Exactly 3) Nothing)

unfoldable pub asks_of : Opcode → Asks
asks_of (C.Binary op) = Exactly 2
asks_of C.LoadKey = First
asks_of (C.Store size) = Exactly 2
asks_of (C.LoadCtx offset size) = Nothing
asks_of (C.LoadPacket offset size) = Nothing
asks_of (C.HelperCall id) = helper_asks id
asks_of (C.CallMap map) = First
asks_of (C.UpdateMap map) = Exactly 2
asks_of C.NullCheck = First
asks_of (C.RingBufReserve map size) = Nothing
asks_of (C.RingBufSubmit map) = First
asks_of (C.CopyCtxToMem offset size) = First

-- so many operands are right; 'first' needs one operand, more are ignored
unfoldable pub enough : Asks → ℕ → Bool
enough Nothing count = true
enough First count = leb 1 count
enough (Exactly n) count = eqb count n
