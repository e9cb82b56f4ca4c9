use mathlib.Core.Path.{sym, ◌∙◌}
use native.Mathlib.Omega.{arith}
use lib.ListN.{length, length-set}
use Rattle.text.specs.Digits.{shown_name}
use Rattle.text.proofs.Steps.{name_length, name_step, name_end}
use Rattle.text.proofs.Wrote.{no_room, after_in, none}
use Rattle.text.proofs.pieces.put_name.Goals as goal

pub loop-k-preserved : goal.loop-k-preserved
loop-k-preserved c =
    let l = c.loop-k in
    (simp length-set l.invariant.0, name_step l.out c.args.name.now c.args.at l.k c.shown.ensures c.loop-k-test.true l.invariant.0 ∙ l.invariant.1)

pub returns-then-lies : goal.returns-then-lies
returns-then-lies c =
    let l = c.loop-k in
    let n = name_length c.args.name.now in
    record { value = omega (arith, after_in c.args.out.now c.args.at (shown_name c.args.name.now) (omega arith)); out_after = sym (name_end l.out c.args.name.now c.args.at l.k (omega arith)) ∙ l.invariant.1 }

pub returns : goal.returns
returns c =
    let out = no_room c.args.at (length c.args.name.now) (length c.args.out.now) c.lies.ensures c.if-lies.false in
    let shown = none c.args.out.now c.args.at (shown_name c.args.name.now) (omega (arith, name_length c.args.name.now)) in
    record { value = shown.0; out_after = shown.1 }
