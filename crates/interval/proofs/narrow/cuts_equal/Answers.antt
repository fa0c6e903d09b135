-- `cuts_equal` keeps the meet on both sides, whose ends the calls give.
-- Assumes nothing.
use borrow.Author.Rules.{rules}
use Rattle.interval.specs.Narrow.{cuts_at}
use Rattle.interval.proofs.narrow.cuts_equal.Goals as goal

pub returns : goal.returns
unfolding cuts_at
returns c = rw (c.kept.ensures, c.between-meet.ensures) (search rules)
