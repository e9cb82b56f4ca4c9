-- A block by the places of its records: what the bytes from a place to another become. No public promise names these.
use Rattle.std.specs.Prelude.{Bool, List, [], ◌∷◌, ◌++◌, ℕ, zero, suc, ◌+◌, ◌-◌, ltb, drop, Err, None, Ok, Option, Result, Some}
use Rattle.std.specs.Int.{w32}
use Rattle.wire.specs.Le.{unsigned_at}
use Rattle.wire.specs.Pick.{pick}
use Rattle.record.specs.Frame.{next_at}
use Rattle.recordparts.specs.Terminator.{terminator_in}
use Rattle.lower.specs.Op.{Op, Lowered, slots_of}
use Rattle.lower.specs.Held.{held}
use Rattle.lower.specs.Payload.{instruction_in, scratch_in}
use Rattle.lower.specs.declared.Emitted.{Emitted}
use Rattle.lower.specs.declared.Reason.{Reason}
use Rattle.lower.specs.Terminator.{terminator}
use Rattle.layout.specs.Layout.{Context, at, ops}

-- the payload of the record at a place, and what stands after it
abbrev pub payload_at : List ℕ → ℕ → List ℕ
payload_at b place = drop (place + 4) b

-- what the instruction in the payload p becomes, from the scratch position j on
unfoldable pub instruction_by : Context → ℕ → List ℕ → Lowered
instruction_by c j p = instruction_in c.frame j (c.condition (unsigned_at w32 p 0)) p

-- the places of the records from a byte to the byte end: every record is longer than nothing, so there are no more than bytes
unfoldable pub places_in : List ℕ → ℕ → ℕ → ℕ → List ℕ
places_in b end zero first = []
places_in b end (suc n) first = pick (ltb first end) (first ∷ places_in b end n (next_at b first)) []

unfoldable pub places : List ℕ → ℕ → ℕ → List ℕ
places b first end = places_in b end (end - first) first

-- the map whose address it loads: a refused one loads none
unfoldable pub map_taken : Result Emitted Reason → Option ℕ
map_taken (Ok e) = e.map
map_taken (Err r) = None

-- the scratch position after it: only an instruction that loads a map's address takes cells of the ring
unfoldable pub ring_on : Option ℕ → ℕ → ℕ → ℕ
ring_on None j after = j
ring_on (Some m) j after = after

unfoldable pub ring_by : Context → ℕ → List ℕ → ℕ
ring_by c j p = ring_on (map_taken (held (instruction_by c j p))) j (scratch_in j p)

-- what the instructions at some places become, from scratch j on, and the scratch position after them
unfoldable pub ops_at : Context → List ℕ → ℕ → List ℕ → List Op
ops_at c b j [] = []
ops_at c b j (p ∷ ps) = ops (at 0 (instruction_by c j (payload_at b p))) ++ ops_at c b (ring_by c j (payload_at b p)) ps

unfoldable pub ring_at : Context → List ℕ → ℕ → List ℕ → ℕ
ring_at c b j [] = j
ring_at c b j (p ∷ ps) = ring_at c b (ring_by c j (payload_at b p)) ps

-- the slot of the terminator after the instructions from a byte to the byte end, the first of which is at slot s
unfoldable pub end_slot : Context → List ℕ → ℕ → ℕ → ℕ → ℕ → ℕ
end_slot c b j first end s = s + slots_of (ops_at c b j (places b first end))

-- by whether the block is emitted: what its terminator becomes, what it becomes, and the scratch position after it
unfoldable pub end_ops : Context → List ℕ → Bool → ℕ → List Op
end_ops c b t end = pick t (ops (at 0 (terminator c.frame (terminator_in b (end + 4))))) []

unfoldable pub block_ops : Context → List ℕ → Bool → ℕ → ℕ → ℕ → List Op
block_ops c b t j first end = pick t (ops_at c b j (places b first end)) [] ++ end_ops c b t end

unfoldable pub block_ring : Context → List ℕ → Bool → ℕ → ℕ → ℕ → ℕ
block_ring c b t j first end = pick t (ring_at c b j (places b first end)) j
