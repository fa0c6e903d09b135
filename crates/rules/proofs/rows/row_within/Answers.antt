-- `rules::rows::row_within` meets its contract: the ends are compared as the intervals are. Assumes nothing.
use borrow.Author.Rules.{rules}
use Rattle.analysis.specs.Rows.{seen}
use Rattle.rules.specs.Outcomes.{row_within_of}
use Rattle.rules.proofs.RowLaws.{Lies, lies-is}
use Rattle.rules.proofs.rows.row_within.Goals as goal

pub returns : goal.returns
unfolding row_within_of
returns c =
    let a = c.args in
    c.all_below.ensures (Lies (seen a.a.now) (seen a.b.now)) (λ v r below p. lies-is c.requires.ordered below (seen a.b.now) (search rules))
