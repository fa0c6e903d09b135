-- `rules::start::holds_start` meets its contract: a value within both ends is within the interval. Assumes nothing.
use borrow.Author.Rules.{rules}
use mathlib.Core.Path.{◌∙◌}
use Rattle.analysis.specs.Rows.{seen}
use Rattle.rules.specs.Rules.{holds_start}
use Rattle.rules.proofs.StartLaws.{value_within, value-within}
use Rattle.rules.proofs.start.holds_start.Goals as goal

pub returns : goal.returns
unfolding holds_start
returns c =
    let table = c.args.table.now in
    let tested = c.all_below.ensures (value_within table.starts.now (seen c.args.row.now)) (λ v r below p. (search rules) ∙ value-within _ _ v) in
    rw (table.cut.starts, table.cut.sizes) at tested
