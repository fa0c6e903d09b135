-- `without` gives what is left between the two ends, which pass no word on the side that `clamp` cuts.
-- Assumes nothing.
use Rattle.std.proofs.Common.{FitsSigned, w32, arith, rules}
use Rattle.std.proofs.lemmas.Int.{to_z-of_z}
use Rattle.interval.specs.Narrow.{without_of}
use Rattle.interval.proofs.ArithmeticLaws.{clamp-is}
use Rattle.interval.proofs.IntegerLaws.{ints, ≤_trans}
use Rattle.interval.proofs.NarrowLaws.{low-above, high-below}
use Rattle.interval.proofs.narrow.without.Goals as goal

pub returns : goal.returns
unfolding without_of
returns c =
    let x = c.args.x in
    let y = c.args.y in
    let low : FitsSigned w32 x.low = search rules in
    let high : FitsSigned w32 x.high = search rules in
    let kept = clamp-is _ _ (≤_trans (omega ints) (low-above x.low y.low y.high)) (≤_trans (high-below x.high y.low y.high) (omega ints)) in
    grind (arith, to_z-of_z, kept)
