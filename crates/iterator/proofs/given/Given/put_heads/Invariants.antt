-- The words of the heads before this one are there.
-- Assumes nothing.
use Rattle.std.proofs.Common.{◌≡◌, ◌+◌, ◌*◌, get_or}
use Rattle.proposer.specs.Fold.{concat_below}
use Rattle.proposer.specs.Passes.{State}
use Rattle.proposer.specs.Propose.{head_words}
use Rattle.iterator.specs.Given.{table_of, held_by}
use Rattle.iterator.specs.Write.{Puts}
use Rattle.iterator.proofs.given.Given.put_heads.Given as goal

abbrev pub invariant-loop-c : goal.invariant-loop-c
invariant-loop-c l =
    record {
      so_far : (s : State) → Puts l.initial.out l.at (concat_below (λ i. head_words (table_of l.self) (held_by l.self) s (get_or l.heads i 0)) l.c-index) l.out l.next;
      next : l.next ≡ l.at + 3 * l.c-index;
    }
