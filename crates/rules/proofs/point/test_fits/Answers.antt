-- `rules::point::test_fits` meets its contract: the condition under the 'not' is tested, and whether it is a comparison picks the function that does it.
-- Assumes nothing.
use Rattle.analysis.specs.Rows.{seen}
use Rattle.analysis.specs.Analysis.{narrow_of, cond_alarms_of}
use Rattle.rules.proofs.PointLaws.{test-value, test-marks, compared-at}
use Rattle.rules.proofs.point.test_fits.Goals as goal

pub returns-in-Compare : goal.returns-in-Compare
unfolding narrow_of cond_alarms_of
returns-in-Compare c =
    let at = c.args.at.now in
    let nodes = at.all.now.proposal.table.cut.nodes in
    let bare = c.bare-under.ensures in
    let tree = compared-at _ _ c.shape_at.ensures c.in-Compare.is in
    let tested = c.compared_fits.ensures in
    record {
      value = test-value _ _ _ _ _ (seen at.row) nodes bare.node_value _ at.point at.held bare.turned_value c.other_if-yes.ensures c.other_if-no.ensures (rw tree tested.value);
      marks_after = test-marks _ _ _ _ _ (seen at.row) nodes bare.node_value _ (rw tree tested.marks_after);
    }

pub returns-in_default : goal.returns-in_default
returns-in_default c =
    let at = c.args.at.now in
    let nodes = at.all.now.proposal.table.cut.nodes in
    let bare = c.bare-under.ensures in
    let tested = c.split_fits.ensures in
    record {
      value = test-value _ _ _ _ _ (seen at.row) nodes bare.node_value _ at.point at.held bare.turned_value c.other_if-yes.ensures c.other_if-no.ensures tested.value;
      marks_after = test-marks _ _ _ _ _ (seen at.row) nodes bare.node_value _ tested.marks_after;
    }
