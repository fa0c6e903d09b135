-- The ends of a row's first intervals.
-- Assumes nothing.
use borrow.Author.Rules.{rules}
use Rattle.iterator.specs.Write.{ends_of}
use Rattle.iterator.proofs.TableLaws.{small}
use Rattle.iterator.proofs.WriteLaws.{row_front}
use Rattle.iterator.proofs.given.Given.put_row.Goals as goal

pub returns-in-Low-clause-puts : goal.returns-in-Low-clause-puts
unfolding ends_of
returns-in-Low-clause-puts c =
    let sizes = small c.args.self.now.table.now in
    rw (c.in-Low.is, row_front c.args.self.now c.args.state.now c.args.k c.requires.0 (search rules) c.row_or_zeros-row.ensures)
    (rw sizes.variables-are at c.put.ensures)

pub returns-in-High-clause-puts : goal.returns-in-High-clause-puts
unfolding ends_of
returns-in-High-clause-puts c =
    let sizes = small c.args.self.now.table.now in
    rw (c.in-High.is, row_front c.args.self.now c.args.state.now c.args.k c.requires.0 (search rules) c.row_or_zeros-row.ensures)
    (rw sizes.variables-are at c.put-in-High.ensures)
