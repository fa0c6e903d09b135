-- The ends of the rows, and behind them those of the entries.
-- Assumes nothing.
use native.Mathlib.Omega.{arith}
use Rattle.iterator.proofs.PutLaws.{puts_append}
use Rattle.iterator.proofs.given.Given.put_ends.Goals as goal

pub returns-clause-puts : goal.returns-clause-puts
returns-clause-puts c = puts_append (omega arith) c.put_rows-next.ensures.puts (rw c.requires.heads at c.put_spans.ensures)
