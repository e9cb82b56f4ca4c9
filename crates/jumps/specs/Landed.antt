-- The refusals 18 and 19 by block numbers: where the jumps of the emitted blocks land, by the tables alone.
use Rattle.std.specs.Prelude.{ℕ, zero, suc, ◌+◌, ◌*◌, ◌-◌, Bool, List, eqb, get_or, Err, Ok, Result, ⊤}
use Rattle.wire.specs.Pick.{pick}
use Rattle.layout.specs.Jumps.{Landing, lands, no_target, too_far, to, nowhere, on_target}
use Rattle.jumps.specs.declared.Astray.{Astray}
use Rattle.jumps.specs.declared.Astray.TheVariants as L

-- 1 at a number
unfoldable pub marked : List ℕ → ℕ → Bool
marked l k = eqb (get_or l k 0) 1

-- where the jumps land, as an answer
unfoldable pub landed_of : Landing → Result ⊤ Astray
landed_of lands = Ok tt
landed_of (no_target place id) = Err (L.NoTarget place id)
landed_of (too_far place id) = Err (L.TooFar place id)

-- the first fault of two
unfoldable pub or_next : Result ⊤ Astray → Result ⊤ Astray → Result ⊤ Astray
or_next (Ok _) next = next
or_next (Err astray) next = Err astray

-- the jump of block k that stands `back` slots before the next block, to the t-th of the ids that are named
unfoldable pub landed_by : List ℕ → List ℕ → List ℕ → List ℕ → List ℕ → ℕ → ℕ → ℕ → Result ⊤ Astray
landed_by emitted edges endings named numbers k back t =
    landed_of
    (on_target
    (record { place = get_or endings k 0; own = get_or edges (k + 1) 0 - back; id = get_or named t 0 })
    (pick (marked emitted (get_or numbers t 0)) (to (get_or edges (get_or numbers t 0) 0)) nowhere))

module _ (emitted edges endings counts named numbers : List ℕ) where
  -- the jumps of block k, for a branch the false target first: a JA is the block's last slot, a JNE the one before it
  unfoldable pub landed_at : ℕ → Result ⊤ Astray
  landed_at k =
      pick (eqb (get_or counts k 0) 0) (Ok tt)
      (pick (eqb (get_or counts k 0) 1) (landed_by emitted edges endings named numbers k 1 (2 * k))
      (or_next (landed_by emitted edges endings named numbers k 1 (2 * k + 1)) (landed_by emitted edges endings named numbers k 2 (2 * k))))

  -- the jumps of the n blocks from block k on
  unfoldable pub landed_from : ℕ → ℕ → Result ⊤ Astray
  landed_from k zero = Ok tt
  landed_from k (suc n) = pick (marked emitted k) (or_next (landed_at k) (landed_from (suc k) n)) (landed_from (suc k) n)
