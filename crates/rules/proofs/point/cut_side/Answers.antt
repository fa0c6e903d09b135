-- `rules::point::cut_side` meets its contract: both cuts decide whether there is an outcome, and its row and held word are tested. Assumes nothing.
use mathlib.Core.Path.{◌∙◌}
use Rattle.analysis.specs.Rows.{seen}
use Rattle.rules.proofs.OrderedLaws.{taken-in-order, last-ordered}
use Rattle.rules.proofs.PointLaws as laws
use Rattle.rules.proofs.point.cut_side.Goals as goal

pub returns-in_default : goal.returns-in_default
returns-in_default c = c.no_outcome.ensures ∙ laws.first-none _ _ _ _ _ _ (seen c.args.at.now.row) c.args.u c.in_default.is

pub returns-in_default-last : goal.returns-in_default-last
returns-in_default-last c =
    c.no_outcome-in_default-last.ensures
    ∙ laws.last_none _ _ _ _ _ _ (seen c.args.at.now.row) c.args.u c.requires.v_bound c.in-Some.is c.met_if-last.ensures c.in_default-last.is

-- the ends of both cuts are in order
pub written_within-requires-clause-in_order : goal.written_within-requires-clause-in_order
written_within-requires-clause-in_order c =
    let taken = c.requires.left_value in
    (taken-in-order _ taken.0 c.in-Some.is, last-ordered _ _ _ taken.1 c.met_if-last.ensures c.in-Some-last.is)

pub returns : goal.returns
returns c =
    let at = c.args.at.now in
    laws.both_left _ _ _ _ _ _ (seen at.row) c.args.u c.requires.v_bound c.in-Some.is c.met_if-last.ensures c.in-Some-last.is at.whole
    at.all.now.proposal.table.cut.sizes c.held.ensures.value c.row.ensures.value c.written_within.ensures
