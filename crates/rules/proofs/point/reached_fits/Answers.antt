-- `rules::point::reached_fits` meets its contract: what stands at the point picks the function that tests it, and what it names is in range
-- because the table passed. Assumes nothing.
use Rattle.table.specs.Passes.{FormedPoint}
use Rattle.rules.proofs.CheckedLaws.{formed_at}
use Rattle.rules.proofs.point.reached_fits.Goals as goal

pub assign_fits-requires : goal.assign_fits-requires
unfolding FormedPoint
assign_fits-requires c =
    let at = c.args.at.now in
    let named = formed_at at.all.now at.point at.there c.point_at.ensures c.in-Assign.is in
    named.2.point

pub test_fits-requires : goal.test_fits-requires
unfolding FormedPoint
test_fits-requires c =
    let at = c.args.at.now in
    let named = formed_at at.all.now at.point at.there c.point_at.ensures c.in-Test.is in
    (named.1.point, named.2.point)

pub lock_fits-requires : goal.lock_fits-requires
unfolding FormedPoint
lock_fits-requires c =
    let at = c.args.at.now in
    let named = formed_at at.all.now at.point at.there c.point_at.ensures c.in-Lock.is in
    (named.0, named.1.point)

pub unlock_fits-requires : goal.unlock_fits-requires
unfolding FormedPoint
unlock_fits-requires c =
    let at = c.args.at.now in
    let named = formed_at at.all.now at.point at.there c.point_at.ensures c.in-Unlock.is in
    (named.0, named.1.point)
