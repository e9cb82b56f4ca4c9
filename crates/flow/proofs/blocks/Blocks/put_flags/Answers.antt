use Rattle.std.proofs.Common.{arith}
use Rattle.flow.proofs.Numbers.{number_block}
use Rattle.flow.proofs.blocks.Blocks.put_flags.Goals as goal

pub bounds-marks-last : goal.bounds-marks-last
bounds-marks-last c =
    let b = c.args.self.now in
    omega (arith, c.find-last.ensures, number_block b.ids.now c.loop-i.i b.few c.loop-i-test.true)
