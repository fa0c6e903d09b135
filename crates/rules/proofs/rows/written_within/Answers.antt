-- `rules::rows::written_within` meets its contract: the ends, those written in their places, are compared as the intervals are. Assumes nothing.
use borrow.Author.Rules.{rules}
use Rattle.analysis.specs.declared.Row.{Row}
use Rattle.analysis.specs.Rows.{seen}
use Rattle.rules.specs.Outcomes.{row_within_of}
use Rattle.rules.specs.Ready.{Ordered}
use Rattle.rules.proofs.RowLaws.{Lies, lies-is, written-ordered, written_row}
use Rattle.rules.proofs.rows.written_within.Goals as goal

pub returns : goal.returns
unfolding row_within_of
returns c =
    let a = c.args in
    let written : Row = written_row a.a.now.lows.now a.a.now.highs.now a.v a.first.low a.first.high a.x a.last.low a.last.high in
    let in_order : Ordered written.lows written.highs a.variables =
    written-ordered _ _ _ (written-ordered _ _ _ c.requires.ordered c.requires.in_order.0) c.requires.in_order.1 in
    c.all_below.ensures (Lies written (seen a.b.now)) (λ v r below p. lies-is in_order below (seen a.b.now) (search rules))
