-- `solve` begins, runs, looks where paths end, and cuts the entries.
use Rattle.std.proofs.Common.{◌≡◌, ℕ, ◌<◌, length, get_or, arith}
use lib.ListN.{get_or-replicate}
use Rattle.worklist.proofs.Words.{none}
use Rattle.paths.proofs.Settle.{began, solved}
use Rattle.paths.proofs.work.solve.Goals as goal

pub run-requires : goal.run-requires
run-requires c =
    let f = c.fill in
    let m = c.mark.ensures in
    let full : (k : ℕ) → k < length f.new.self → get_or f.new.self k 0 ≡ 4095 = λ k l. rw (f.ensures.after (λ y e. e)) (get_or-replicate {A = ℕ} (length c.args.t.now) k 4095 0 (omega (arith, f.ensures.len))) in
    began c.args.code.now f.new.self (omega (arith, f.ensures.len, c.requires.t_len)) (omega (arith, f.ensures.len, c.requires.t_nonzero)) (omega (arith, f.ensures.len, c.requires.t_nonzero)) full c.new-work.result c.mark.new.self (let n = c.new-work.ensures in rw (n.low, n.mid, n.top) none) (record { low = m.low; mid = m.mid; top = m.top })

pub returns : goal.returns
returns c =
    let q = c.cut in
    solved c.args.code.now c.run.new.t c.run.ensures q.new.t c.ends-e.result q.auto.t q.ensures c.ends-e.ensures
