-- `iterator::given::Given::rest_visits` meets its contract: the rest rows of the mutexes before m are widened, and no entry changes. Assumes nothing.
use Rattle.std.proofs.Common.{◌≡◌}
use Rattle.proposer.specs.Fold.{fold_below}
use Rattle.proposer.specs.Passes.{rest_visit}
use Rattle.iterator.specs.Given.{table_of, thresholds_of, held_by, state_by}
use Rattle.iterator.proofs.given.Given.rest_visits.Given as goal

abbrev pub invariant-loop-m : goal.invariant-loop-m
invariant-loop-m l =
    let g = l.fn.self in
    (state_by g l.state ≡ fold_below (rest_visit (table_of g) (thresholds_of g) (held_by g)) (state_by g l.initial.state) l.m)
    × (l.state.entries ≡ l.initial.state.entries)
