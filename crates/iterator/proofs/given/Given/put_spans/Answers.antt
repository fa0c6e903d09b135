-- A word by index, for each head.
-- Assumes nothing.
use borrow.Author.Rules.{rules}
use lib.ListN.{get_or}
use Rattle.iterator.proofs.WriteLaws.{span_at, map_tabulate}
use Rattle.iterator.proofs.given.Given.put_spans.Goals as goal

pub returns : goal.returns
returns c =
    rw (map_tabulate (span_at c.args.self.now c.args.state.now c.args.side) c.args.heads.now 0)
    (c.put_each.ensures.puts (λ i. span_at c.args.self.now c.args.state.now c.args.side (get_or c.args.heads.now i 0)) (λ k r l p. search rules))
