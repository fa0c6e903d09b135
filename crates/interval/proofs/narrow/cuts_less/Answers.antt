-- `cuts_less` keeps the two cuts, each of which passes no word on the side that `clamp` cuts.
-- Assumes nothing.
use mathlib.Core.Path.{◌≡◌}
use lib.IntN.{pos, ◌+ℤ◌, ◌-ℤ◌}
use Rattle.std.proofs.Common.{FitsSigned, w32, arith, rules}
use Rattle.std.proofs.lemmas.Int.{clamps, to_z-of_z}
use Rattle.std.specs.Int.{int_min, int_max}
use Rattle.interval.specs.Interval.{from_to}
use Rattle.interval.specs.Narrow.{cuts_at}
use Rattle.interval.proofs.ArithmeticLaws.{clamp-is}
use Rattle.interval.proofs.IntegerLaws.{ints}
use Rattle.interval.proofs.narrow.cuts_less.Goals as goal

pub returns : goal.returns
unfolding cuts_at
returns c =
    let x = c.args.x in
    let y = c.args.y in
    let x_low : FitsSigned w32 x.low = search rules in
    let x_high : FitsSigned w32 x.high = search rules in
    let y_low : FitsSigned w32 y.low = search rules in
    let y_high : FitsSigned w32 y.high = search rules in
    let left : c.clamp-left.result ≡ from_to x.low (int_min x.high (y.high -ℤ pos 1)) =
    grind (arith, to_z-of_z, clamp-is x.low (int_min x.high (y.high -ℤ pos 1)) (omega ints) (omega (ints, clamps))) in
    let right : c.clamp-right.result ≡ from_to (int_max y.low (x.low +ℤ pos 1)) y.high =
    grind (arith, to_z-of_z, clamp-is (int_max y.low (x.low +ℤ pos 1)) y.high (omega (ints, clamps)) (omega ints)) in
    rw (c.kept.ensures, left, right)
