-- `cuts_at_most` keeps the two cuts, whose new ends the calls give.
-- Assumes nothing.
use borrow.Author.Rules.{rules}
use Rattle.interval.specs.Narrow.{cuts_at}
use Rattle.interval.proofs.narrow.cuts_at_most.Goals as goal

pub returns : goal.returns
unfolding cuts_at
returns c = rw (c.kept.ensures, c.between.ensures, c.between-2.ensures) (search rules)
