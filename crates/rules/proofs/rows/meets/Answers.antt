-- `rules::rows::meets` meets its contract: the ends are compared as the intervals are met. Assumes nothing.
use borrow.Author.Rules.{rules}
use Rattle.analysis.specs.Rows.{seen}
use Rattle.rules.proofs.RowLaws.{Meets, meets-is}
use Rattle.rules.proofs.rows.meets.Goals as goal

pub returns : goal.returns
returns c =
    let a = c.args in
    let pre = c.requires in
    c.all_below.ensures (Meets (seen a.a.now) (seen a.b.now)) (λ v r below p. meets-is pre.ordered below pre.ordered_2 (search rules))
