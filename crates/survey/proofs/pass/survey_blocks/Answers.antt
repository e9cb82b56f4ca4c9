use mathlib.Core.Path.{sym, ap, ◌∙◌}
use Prim.Native.Nat.{ℕ, ◌+◌, ◌≤◌}
use lib.ListN.{length}
use Rattle.unitfile.specs.Unit.{parse}
use Rattle.survey.specs.Surveyed.{blocks_of}
use native.Mathlib.Omega.{arith}
use Rattle.record.specs.Frame.{next_at}
use Rattle.unitfile.proofs.Units.{unit_of}
use Rattle.survey.proofs.Bounds.{blocks_count}
use Rattle.survey.proofs.Left.{start, begins_inside, still_holds, ends_inside, on_block, end_answer, end_variables, end_ids, end_endings, ids_length, endings_length}
use Rattle.survey.proofs.pass.survey_blocks.Goals as goal

pub loop-k-init : goal.loop-k-init
loop-k-init c =
    let u = unit_of _ _ c.requires.unit_value in
    (start c.args.unit.now c.args.found _ _ _ c.requires.unit_value c.requires.variables_len, sym (blocks_count _ _ c.requires.unit_value), u.short, u.few_blocks)

pub overflow_add-at : goal.overflow_add-at
overflow_add-at c =
    let k = c.loop-k.invariant in
    let below = rw k.1 at c.loop-k-test.true in
    omega (arith, begins_inside k.0 below)

pub overflow_add-at-in-loop-k : goal.overflow_add-at-in-loop-k
overflow_add-at-in-loop-k c =
    let k = c.loop-k.invariant in
    let below = rw k.1 at c.loop-k-test.true in
    omega (arith, begins_inside k.0 below)

pub over_instructions-g-requires : goal.over_instructions-g-requires
over_instructions-g-requires c =
    let k = c.loop-k.invariant in
    let below = rw k.1 at c.loop-k-test.true in record { holds = k.0.holds; first_in_bounds = (begins_inside k.0 below, k.2) }

pub with_terminator-tally-requires : goal.with_terminator-tally-requires
with_terminator-tally-requires c =
    let k = c.loop-k.invariant in
    let below = rw k.1 at c.loop-k-test.true in
    let o = c.over_instructions-g.ensures in record { holds = still_holds k.0 below o; place_bound = omega (arith, ends_inside k.0 below o) }

pub overflow_cast-end : goal.overflow_cast-end
overflow_cast-end c =
    let k = c.loop-k.invariant in
    let below = rw k.1 at c.loop-k-test.true in
    let o = c.over_instructions-g.ensures in
    omega (arith, ends_inside k.0 below o)

pub overflow_add-at-in-loop-k-2 : goal.overflow_add-at-in-loop-k-2
overflow_add-at-in-loop-k-2 c =
    let k = c.loop-k.invariant in
    let below = rw k.1 at c.loop-k-test.true in
    let o = c.over_instructions-g.ensures in
    omega (arith, ends_inside k.0 below o)

pub overflow_add-at-in-loop-k-3 : goal.overflow_add-at-in-loop-k-3
overflow_add-at-in-loop-k-3 c =
    let k = c.loop-k.invariant in
    let below = rw k.1 at c.loop-k-test.true in
    let o = c.over_instructions-g.ensures in
    omega (arith, ends_inside k.0 below o)

pub loop-k-preserved : goal.loop-k-preserved
unfolding next_at
loop-k-preserved c =
    let k = c.loop-k.invariant in
    let below = rw k.1 at c.loop-k-test.true in
    let o = c.over_instructions-g.ensures in
    let next = ap (λ (n : ℕ). c.over_instructions-g.result.at + 4 + n) c.get_u16.ensures in
    (on_block k.0 below o c.with_terminator-tally.ensures c.get_u32.ensures c.keep.ensures c.keep-in-loop-k.ensures next (omega arith), k.1, k.2, k.3)

pub shape_of-ids : goal.shape_of-ids
shape_of-ids c =
    let k = c.loop-k.invariant in
    ids_length k.0 (omega (arith, k.1))

pub shape_of-endings : goal.shape_of-endings
shape_of-endings c =
    let k = c.loop-k.invariant in
    endings_length k.0 (omega (arith, k.1))

pub returns : goal.returns
returns c =
    let k = c.loop-k.invariant in
    let all : length (blocks_of (parse c.args.unit.now)) ≤ c.loop-k.k = omega (arith, k.1) in record { value = c.answer.ensures ∙ end_answer k.0 all c.args.found; variables_after = end_variables k.0 all c.requires.variables_len; ids_after = end_ids k.0 all; endings_after = end_endings k.0 all }
