-- `analysis::Row::widen` meets its contract: the loop writes the ends of both rows together over those of the row, one variable a turn.
-- Assumes nothing.
use borrow.Author.Rules.{rules}
use Rattle.analysis.specs.Rows.{join_rows_of}
use Rattle.analysis.proofs.RowCodeLaws.{joins, joined_all}
use Rattle.analysis.proofs.Row.widen.Goals as goal

pub loop-v-preserved : goal.loop-v-preserved
loop-v-preserved c = search (rules, joins)

pub returns : goal.returns
unfolding join_rows_of
returns c =
    let joined = c.loop-v.invariant in
    rw (
      joined_all _ _ _ _ _ joined.lows c.loop-v-test.false (search rules) (search rules),
      joined_all _ _ _ _ _ joined.highs c.loop-v-test.false (search rules) (search rules),
    )
