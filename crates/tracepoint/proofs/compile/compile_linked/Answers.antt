-- `compile_linked` measures the unit and follows its jumps; each refusal is that of the definitions.
use mathlib.Core.Path.{sym}
use Prim.Native.Nat.{◌<◌}
use native.Mathlib.Omega.{arith}
use lib.ListN.{length}
use Rattle.std.proofs.lemmas.Result.{err_from_is_err_and}
use Rattle.survey.proofs.Bounds.{blocks_count}
use Rattle.tracepoint.specs.Lent.{context_in, blocks_in}
use Rattle.tracepoint.proofs.Compiling.{when_faulty, when_astray, ready, when_lands}
use Rattle.tracepoint.proofs.compile.compile_linked.Goals as goal

pub returns-in_err-slots : goal.returns-in_err-slots
returns-in_err-slots c =
    let p = err_from_is_err_and c.from_residual.result c.from_residual.ensures.1 in
    rw (p.1, p.2) (when_faulty _ _ _ _ _ c.measure.ensures _ _ c.in_err-slots.was _ _)

pub returns-in_err-check_jumps : goal.returns-in_err-check_jumps
returns-in_err-check_jumps c =
    let p = err_from_is_err_and c.from_residual-in_err-check_jumps.result c.from_residual-in_err-check_jumps.ensures.1 in
    let same = blocks_count c.args.links.unit.now c.args.links.found c.args.links.read in
    let roomy : length (blocks_in c.args.links) < length c.args.edges.now = omega (arith, same, c.requires.edges_size) in
    rw (p.1, p.2) (when_astray (context_in c.args.context) _ _ _ _ c.measure.ensures c.args.links.linked _ _ c.in_ok-slots.was roomy (sym same) c.check_jumps.ensures _ c.in_err-check_jumps.was _ _)

pub write_roomed-requires : goal.write_roomed-requires
write_roomed-requires c =
    let same = blocks_count c.args.links.unit.now c.args.links.found c.args.links.read in
    let roomy : length (blocks_in c.args.links) < length c.args.edges.now = omega (arith, same, c.requires.edges_size) in
    ready (context_in c.args.context) _ _ _ _ c.measure.ensures c.args.links.linked _ _ c.in_ok-slots.was roomy (sym same) c.check_jumps.ensures c.in_ok-check_jumps.was

pub returns : goal.returns
returns c =
    let same = blocks_count c.args.links.unit.now c.args.links.found c.args.links.read in
    let roomy : length (blocks_in c.args.links) < length c.args.edges.now = omega (arith, same, c.requires.edges_size) in
    when_lands (context_in c.args.context) _ _ _ _ c.measure.ensures c.args.links.linked _ _ c.in_ok-slots.was roomy (sym same) c.check_jumps.ensures c.in_ok-check_jumps.was c.write_roomed.ensures
