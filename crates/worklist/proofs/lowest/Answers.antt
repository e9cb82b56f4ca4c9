-- `worklist::lowest` finds the lowest set bit.
use lib.Count.{count_trailing_zeros}
use Rattle.worklist.proofs.LowestBit.{lowest, lowest_below, zeros_lowest}
use Rattle.worklist.proofs.lowest.Goals as goal

pub returns : goal.returns
returns c =
    let x = c.args.x in
    let l = c.ranges.x.fits in
    let L = lowest 64 x c.requires l in record { value = zeros_lowest 64 x c.requires l; upper_bound = (lowest_below 64 x (count_trailing_zeros 64 x) l L, L.has) }
