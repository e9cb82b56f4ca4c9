-- `take` takes at most one slot out.
use Rattle.std.proofs.Common.{◌+◌, ◌*◌, ◌<◌, get_or, length, refl, arith}
use borrow.Author.Tests.{eq-eqb, ne_eqb, le-leb, lt-leb}
use Rattle.wire.proofs.Bits.{shl_one}
use Rattle.worklist.specs.Set.{from_word, from_summary, lead, taken_low, taken_mid, taken_top, taken}
use Rattle.worklist.proofs.Worklist.take.Goals as goal

pub returns-then-self-eq0 : goal.returns-then-self-eq0
unfolding lead taken_low taken_mid taken_top taken
returns-then-self-eq0 c =
    simp (eq-eqb _ _ c.if-self-eq0.true) (record { value = refl; low = refl; mid = refl; top = c.if-self-eq0.true })

pub returns-then-i-ge32 : goal.returns-then-i-ge32
unfolding from_word from_summary lead taken_low taken_mid taken_top taken
returns-then-i-ge32 c = simp (ne_eqb _ _ c.if-self-eq0.false, ← c.lowest-i.ensures.value, le-leb _ _ c.if-i-ge32.true) (record { value = refl; low = refl; mid = refl; top = refl })

pub returns-then-mid-eq0 : goal.returns-then-mid-eq0
unfolding from_summary lead taken_low taken_mid taken_top taken
returns-then-mid-eq0 c =
    simp (
      shl_one c.lowest-i.result 64 (omega arith),
      ne_eqb _ _ c.if-self-eq0.false,
      ← c.lowest-i.ensures.value,
      lt-leb _ _ c.if-i-ge32.false,
      eq-eqb _ _ c.if-mid-eq0.true,
    ) (record { value = refl; low = refl; mid = refl; top = refl })

pub returns-then-low-eq0 : goal.returns-then-low-eq0
unfolding from_word from_summary lead taken_low taken_mid taken_top taken
returns-then-low-eq0 c =
    simp (
      shl_one c.lowest-k.result 64 (omega arith),
      ne_eqb _ _ c.if-self-eq0.false,
      ← c.lowest-i.ensures.value,
      lt-leb _ _ c.if-i-ge32.false,
      ne_eqb _ _ c.if-mid-eq0.false,
      ← c.lowest-k.ensures.value,
      eq-eqb _ _ c.if-low-eq0.true,
    ) (record { value = refl; low = refl; mid = refl; top = refl })

pub returns : goal.returns
unfolding from_word from_summary lead taken_low taken_mid taken_top taken
returns c =
    simp (
      shl_one c.lowest-b.result 64 (omega arith),
      ne_eqb _ _ c.if-self-eq0.false,
      ← c.lowest-i.ensures.value,
      lt-leb _ _ c.if-i-ge32.false,
      ne_eqb _ _ c.if-mid-eq0.false,
      ← c.lowest-k.ensures.value,
      ne_eqb _ _ c.if-low-eq0.false,
      ← c.lowest-b.ensures.value,
    ) (record { value = refl; low = refl; mid = refl; top = refl })
