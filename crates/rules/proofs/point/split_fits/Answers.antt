-- `rules::point::split_fits` meets its contract: one walk of the condition gives the marks and both rows, and each row the outcome of its side.
-- Assumes nothing.
use mathlib.Core.Path.{ap, ◌∙◌}
use mathlib.Core.Bool.{true, false}
use Rattle.analysis.specs.declared.Split.{Split}
use Rattle.rules.proofs.OrderedLaws.{narrowed}
use Rattle.rules.proofs.PointLaws.{split-side, both-fit}
use Rattle.rules.proofs.point.split_fits.Goals as goal

-- the ends of what narrowing left are in order
pub side-requires-clause-ordered : goal.side-requires-clause-ordered
side-requires-clause-ordered c =
    let whole = c.args.at.now.whole in narrowed _ whole.variables _ true _ c.own-row.ensures c.sides-said.ensures.yes_after whole.ordered

pub side-requires-2-clause-ordered : goal.side-requires-2-clause-ordered
side-requires-2-clause-ordered c =
    let whole = c.args.at.now.whole in narrowed _ whole.variables _ false _ c.own-row.ensures c.sides-said.ensures.no_after whole.ordered

pub returns-clause-value : goal.returns-clause-value
returns-clause-value c =
    let row = c.own-row.ensures in
    let said = c.sides-said.ensures in
    c.both_sides.ensures
    ∙ both-fit _ _ _ _ _ _ _
    (split-side _ _ _ _ _ (rw row at (ap (λ (s : Split). s.yes) said.value)) (rw row at said.yes_after) c.side.ensures)
    (split-side _ _ _ _ _ (rw row at (ap (λ (s : Split). s.no) said.value)) (rw row at said.no_after) c.side-2.ensures)
