-- Where there are keys, the last one below the next id's is that of the id's last block; where there are none, each block's id is told by its place.
use Rattle.std.proofs.Common.{arith, ap, sym, ⊎_elim, ℕ, ◌+◌, ◌*◌, ◌<◌, ◌≤◌, length}
use Rattle.std.proofs.lemmas.Bool.{cases_lt}
use Rattle.std.proofs.lemmas.List.Sorted.{IsNonDecreasingBy-short}
use Rattle.flow.proofs.Numbers.{number_nowhere}
use Rattle.flow.proofs.Keys.{keys_rise, find_none, found_block, find_here, find_other}
use Rattle.flow.proofs.blocks.Blocks.search.Goals as goal

-- the key after an id's last
abbrev past : ℕ → ℕ
past id = id * 1024 + 1024

pub below-past-requires : goal.below-past-requires
below-past-requires c =
    let b = c.args.self.now in
    ⊎_elim (λ (h : 0 < length b.keys.now). keys_rise b.ids.now (b.sorts h)) (λ (h : length b.keys.now ≤ 0). IsNonDecreasingBy-short (λ n. n) b.keys.now (omega arith))
    (cases_lt 0 (length b.keys.now))

pub returns-then-past-eq0 : goal.returns-then-past-eq0
returns-then-past-eq0 c =
    let b = c.args.self.now in
    let p = c.below-past.ensures in
    ⊎_elim (λ (h : 0 < length b.keys.now). find_none b.ids.now (b.sorts h) b.few c.args.id (ap past c.from.ensures) p.bound p.cut c.if-past-eq0.true)
    (λ (h : length b.keys.now ≤ 0). sym (number_nowhere 0 b.ids.now c.args.id (record { never = λ j l e. c.requires (rw e at (b.unsorted (omega arith) j l)) })))
    (cases_lt 0 (length b.keys.now))

pub bounds-ids-number : goal.bounds-ids-number
bounds-ids-number c =
    let b = c.args.self.now in
    let p = c.below-past.ensures in
    found_block b.ids.now (b.sorts (omega (arith, p.bound))) b.few c.args.id (ap past c.from.ensures) p.bound p.cut (omega arith)

pub returns-then-ids-number : goal.returns-then-ids-number
returns-then-ids-number c =
    let b = c.args.self.now in
    let p = c.below-past.ensures in
    find_here b.ids.now (b.sorts (omega (arith, p.bound))) b.few c.args.id (ap past c.from.ensures) p.bound p.cut (omega arith) c.if-ids-number.true

pub returns : goal.returns
returns c =
    let b = c.args.self.now in
    let p = c.below-past.ensures in
    find_other b.ids.now (b.sorts (omega (arith, p.bound))) b.few c.args.id (ap past c.from.ensures) p.bound p.cut (omega arith) c.if-ids-number.false
