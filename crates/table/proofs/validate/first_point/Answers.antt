-- `table::validate::first_point` meets its contract: the walk begins at no point, and a place that a task has is the place among all the points. Assumes nothing.
use Rattle.table.specs.Layout.{first_of, first_in}
use Rattle.table.proofs.TaskLaws.{last_within}
use Rattle.table.proofs.WalkLaws.{walk_none, walk_longer}
use Rattle.table.proofs.validate.first_point.Goals as goal

pub loop-u-init : goal.loop-u-init
unfolding first_of first_in
loop-u-init c = walk_none

pub returns-in-Some : goal.returns-in-Some
returns-in-Some c =
    let below = rw c.sizes-u-end.ensures.value at c.loop-u-test.true in
    walk_longer (c.in-Some.ensures _ c.loop-u.invariant) (last_within _ c.requires.whole c.requires.sum below)
