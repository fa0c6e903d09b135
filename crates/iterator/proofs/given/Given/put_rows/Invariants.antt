-- The ends of the rows before this one are there.
-- Assumes nothing.
use Rattle.std.proofs.Common.{◌≡◌, ◌+◌, ◌*◌}
use Rattle.table.specs.Layout.{sizes_of}
use Rattle.proposer.specs.Fold.{concat_below}
use Rattle.proposer.specs.Propose.{row_out}
use Rattle.iterator.specs.Given.{table_of, held_by, state_by}
use Rattle.iterator.specs.Write.{Puts, ends_of}
use Rattle.iterator.proofs.given.Given.put_rows.Given as goal

abbrev pub invariant-loop-k : goal.invariant-loop-k
invariant-loop-k l =
    record {
      so_far : Puts l.initial.out l.at (concat_below (λ k. ends_of l.side (row_out (table_of l.self) (held_by l.self) (state_by l.self l.state) k)) l.k) l.out l.next;
      next : l.next ≡ l.at + l.k * (sizes_of (table_of l.self)).variables;
    }
