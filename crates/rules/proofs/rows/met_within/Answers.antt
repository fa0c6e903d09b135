-- `rules::rows::met_within` meets its contract: the met ends, which are in order, are compared as the intervals are. Assumes nothing.
use borrow.Author.Rules.{rules}
use Rattle.analysis.specs.Rows.{seen}
use Rattle.rules.specs.Outcomes.{row_within_of}
use Rattle.rules.proofs.RowLaws.{Lies, met_of, met-is}
use Rattle.rules.proofs.rows.met_within.Goals as goal

pub returns : goal.returns
unfolding row_within_of
returns c =
    let a = c.args in
    let met = met_of a.a.now.lows.now a.a.now.highs.now a.b.now.lows.now a.b.now.highs.now in
    c.all_below.ensures (Lies met (seen a.c.now))
    (λ v r below p. met-is _ _ _ _ (seen a.c.now) c.requires.variables_value below (search rules))
