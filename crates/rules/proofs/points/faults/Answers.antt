-- `rules::points::faults` meets its contract: each point adds its faults and its marks. Assumes nothing.
use mathlib.Core.Path.{◌≡◌}
use native.Mathlib.Omega.{arith}
use Rattle.rules.proofs.PointsLaws.{walk, walks}
use Rattle.rules.proofs.points.faults.Goals as goal

pub loop-p-init : goal.loop-p-init
loop-p-init c = walk

pub loop-p-preserved : goal.loop-p-preserved
loop-p-preserved c = walks c.loop-p.invariant c.loop-p.auto.p c.point_fits-fits.ensures.value c.fault_or-found.ensures c.point_fits-fits.ensures.marks_after

pub returns : goal.returns
returns c =
    let done : c.loop-p.p ≡ c.args.r.to = omega arith in
    let walked = rw done at c.loop-p.invariant in
    record { value = walked.faults; marks_after = walked.marked }
