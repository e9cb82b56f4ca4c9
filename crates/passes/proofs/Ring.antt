-- Only an instruction that loads a map's address takes cells of the scratch ring.
use mathlib.Core.Path.{◌≡◌, refl, sym, ap, ◌∙◌}
use mathlib.Core.Bool.{Bool}
use mathlib.Core.List.{List, [], ◌∷◌, ◌++◌}
use Prim.Native.Nat.{ℕ}
use native.Mathlib.Omega.{arith}
use Rattle.ir.specs.declared.Operand.{Operand}
use Rattle.ir.specs.declared.Opcode.{Opcode}
use Rattle.ir.specs.declared.Opcode.TheVariants as C
use Rattle.frame.specs.Cell.{Frame}
use Rattle.lower.specs.Op.{Op, plain, map, ja, jne, Lowered, becomes, refused, ◌▸◌}
use Rattle.lower.specs.Operand.{map_address}
use Rattle.lower.specs.Instruction.{on_first, on_two, opcode, after_first, after_two, scratch_by}
use Rattle.lower.specs.Held.{map_in, held}
use Rattle.layout.specs.Layout.{at}
use Rattle.layout.proofs.Laid.{Fine}
use Rattle.passes.specs.Places.{map_taken, ring_on}
use Rattle.std.specs.Prelude.{None, Option, Some}

-- ---- what begins with the load of a map's address

abbrev Loads : ℕ → Lowered → Type 0
Loads m x = (l : List Op) → x ≡ becomes l → map_in l ≡ Some m

map_append : (m : ℕ) (a b : List Op) → map_in a ≡ Some m → map_in (a ++ b) ≡ Some m
unfolding map_in
map_append m [] b e = let z : ◌≡◌ {A = ℕ} 0 1 = cc in absurd (omega arith)
map_append m (map n ∷ a) b e = e
map_append m (plain i ∷ a) b e = map_append m a b e
map_append m (ja to ∷ a) b e = map_append m a b e
map_append m (jne to ∷ a) b e = map_append m a b e

loads_then : (m : ℕ) (x y : Lowered) → Loads m x → Loads m (x ▸ y)
unfolding ◌▸◌
loads_then m (becomes a) (becomes b) h l e =
    let z : a ++ b ≡ l = cc in
    ap map_in (sym z) ∙ map_append m a b (h a refl)
loads_then m (becomes a) (refused r) h l e = let z : ◌≡◌ {A = ℕ} 0 1 = cc in absurd (omega arith)
loads_then m (refused r) (becomes b) h l e = let z : ◌≡◌ {A = ℕ} 0 1 = cc in absurd (omega arith)
loads_then m (refused r) (refused q) h l e = let z : ◌≡◌ {A = ℕ} 0 1 = cc in absurd (omega arith)

loads_map : (m : ℕ) → Loads m (map_address m)
unfolding map_address map_in
loads_map m l e =
    let z : map m ∷ [] ≡ l = cc in
    ap map_in (sym z)

-- ---- the ring

stays : (m : Option ℕ) (j : ℕ) → ring_on m j j ≡ j
unfolding ring_on
stays None j = refl
stays (Some m) j = refl

goes : {m : Option ℕ} {n : ℕ} (j k : ℕ) → m ≡ Some n → ring_on m j k ≡ k
unfolding ring_on
goes j k e = rw e

never : {r : _} {l : List Op} → refused r ≡ becomes l → ⊥
never e = let z : ◌≡◌ {A = ℕ} 0 1 = cc in omega arith

module _ (f : Frame) (j : ℕ) (t : Bool) (result : ℕ) where
  ring_opcode : (o : Opcode) (os : List Operand) (l : List Op) → opcode f j t result o os ≡ becomes l → ring_on (map_in l) j (scratch_by j o os) ≡ scratch_by j o os
  unfolding scratch_by opcode after_first after_two on_first on_two
  ring_opcode (C.CallMap m) [] l e = stays (map_in l) j
  ring_opcode (C.CallMap m) (a ∷ rest) l e = goes j _ (loads_then m _ _ (loads_then m _ _ (loads_then m _ _ (loads_map m))) l e)
  ring_opcode (C.UpdateMap m) [] l e = stays (map_in l) j
  ring_opcode (C.UpdateMap m) (a ∷ []) l e = absurd (never e)
  ring_opcode (C.UpdateMap m) (a ∷ b ∷ []) l e = goes j _ (loads_then m _ _ (loads_then m _ _ (loads_then m _ _ (loads_then m _ _ (loads_then m _ _ (loads_map m))))) l e)
  ring_opcode (C.UpdateMap m) (a ∷ b ∷ c ∷ rest) l e = absurd (never e)
  ring_opcode (C.HelperCall id) os l e = stays (map_in l) j
  ring_opcode C.LoadKey os l e = stays (map_in l) j
  ring_opcode (C.Store size) os l e = stays (map_in l) j
  ring_opcode (C.LoadCtx offset size) os l e = stays (map_in l) j
  ring_opcode (C.LoadPacket offset size) os l e = stays (map_in l) j
  ring_opcode (C.CopyCtxToMem offset size) os l e = stays (map_in l) j
  ring_opcode C.NullCheck os l e = stays (map_in l) j
  ring_opcode (C.Binary op) os l e = stays (map_in l) j
  ring_opcode (C.RingBufReserve m size) os l e = stays (map_in l) j
  ring_opcode (C.RingBufSubmit m) os l e = stays (map_in l) j

-- what is not refused
ring_fine : (place j k : ℕ) (x : Lowered) → Fine (at place x) → ((l : List Op) → x ≡ becomes l → ring_on (map_in l) j k ≡ k) → ring_on (map_taken (held x)) j k ≡ k
unfolding held map_taken at
ring_fine place j k (becomes l) f h = h l refl
ring_fine place j k (refused r) f h =
    let e = f.is in
    let z : ◌≡◌ {A = ℕ} 0 1 = cc in absurd (omega arith)

pub ring_after : (f : Frame) (j : ℕ) (t : Bool) (result place : ℕ) (o : Opcode) (os : List Operand) → Fine (at place (opcode f j t result o os)) → ring_on (map_taken (held (opcode f j t result o os))) j (scratch_by j o os) ≡ scratch_by j o os
ring_after f j t result place o os h = ring_fine place j _ _ h (ring_opcode f j t result o os)
