-- `rules::point::compared_fits` meets its contract: both sides are evaluated once, for the marks and for the cuts of both outcomes. Assumes nothing.
use Prim.Native.Nat.{◌<◌}
use mathlib.Core.Path.{◌≡◌, ◌∙◌}
use Rattle.table.specs.Tree.{compare, arith_at}
use Rattle.analysis.specs.Rows.{seen}
use Rattle.analysis.specs.Analysis.{cond_alarms_of}
use Rattle.analysis.proofs.WalkLaws.{one_slot, marked-then}
use Rattle.rules.specs.Reached.{nodes_at}
use Rattle.rules.proofs.OrderedLaws.{cuts-taken}
use Rattle.rules.proofs.PointLaws.{compared-side, both-fit}
use Rattle.rules.proofs.point.compared_fits.Goals as goal

pub cut_side-requires-clause-v_bound : goal.cut_side-requires-clause-v_bound
cut_side-requires-clause-v_bound c = one_slot _ _ _ _ c.variable_or-v.ensures c.variable_or-x.ensures

pub cut_side-requires-clause-left_value : goal.cut_side-requires-clause-left_value
cut_side-requires-clause-left_value c = cuts-taken _ _ _ _ c.cuts-yes.ensures

pub cut_side-requires-2-clause-v_bound : goal.cut_side-requires-2-clause-v_bound
cut_side-requires-2-clause-v_bound c = one_slot _ _ _ _ c.variable_or-v.ensures c.variable_or-x.ensures

pub cut_side-requires-2-clause-left_value : goal.cut_side-requires-2-clause-left_value
cut_side-requires-2-clause-left_value c = cuts-taken _ _ _ _ c.cuts-no.ensures

pub returns-clause-value : goal.returns-clause-value
returns-clause-value c =
    let a = c.args in
    let left = c.value_on-left.ensures.value in
    let right = c.value_on-right.ensures.value in
    let v = c.variable_or-v.ensures in
    let x = c.variable_or-x.ensures in
    c.both_sides.ensures
    ∙ both-fit _ _ (compare 0 a.k (arith_at (nodes_at a.at.now) a.a) (arith_at (nodes_at a.at.now) a.b)) a.y a.n a.at.now.held (seen a.at.now.row)
    (compared-side _ _ _ _ _ _ _ _ (seen a.at.now.row) left right v x c.cuts-yes.ensures c.cut_side.ensures)
    (compared-side _ _ _ _ _ _ _ _ (seen a.at.now.row) left right v x c.cuts-no.ensures c.cut_side-2.ensures)

pub returns-clause-marks_after : goal.returns-clause-marks_after
unfolding cond_alarms_of
returns-clause-marks_after c = marked-then _ _ _ c.value_on-left.ensures.marks_after c.value_on-right.ensures.marks_after
