-- `table::validate::first_in_task` meets its contract: the walk goes on past a point that passes, and stops at one that does not. A point from `first` on
-- and below `last` may name the points of this task. Assumes nothing.
use Prim.Native.Nat.{◌+◌}
use mathlib.Core.Path.{◌≡◌}
use native.Mathlib.Omega.{arith}
use Rattle.table.specs.Layout.{first_of}
use Rattle.table.proofs.TaskLaws.{task_rise, bounded}
use Rattle.table.proofs.WalkLaws.{walk_next, walk_stop}
use Rattle.table.proofs.validate.first_in_task.Goals as goal

pub returns-then-not-point_ok : goal.returns-then-not-point_ok
returns-then-not-point_ok c = λ s w.
    let within = bounded _ c.requires.whole c.requires.sum c.requires.task c.sizes-s.ensures.value c.first_of-first.ensures c.first_of-last.ensures c.loop-p.auto.p c.loop-p-test.true in
    walk_stop (c.loop-p.invariant s w)
    (c.point_ok.ensures _ within c.node_words-nodes.ensures c.point_words-points.ensures)
    c.if-not-point_ok.true
    (rw c.first_of-last.ensures at c.loop-p-test.true)

pub loop-p-preserved : goal.loop-p-preserved
loop-p-preserved c = λ s w.
    let within = bounded _ c.requires.whole c.requires.sum c.requires.task c.sizes-s.ensures.value c.first_of-first.ensures c.first_of-last.ensures c.loop-p.auto.p c.loop-p-test.true in
    walk_next (c.loop-p.invariant s w) (c.point_ok.ensures _ within c.node_words-nodes.ensures c.point_words-points.ensures) c.if-not-point_ok.false

pub returns : goal.returns
returns c =
    let rise = task_rise _ c.requires.whole c.requires.sum c.requires.task in
    let at-end : c.loop-p.p ≡ first_of c.args.t.now (c.args.u + 1) = omega (arith, rise) in rw at-end at c.loop-p.invariant
