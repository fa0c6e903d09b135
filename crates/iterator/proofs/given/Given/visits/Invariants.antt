-- `iterator::given::Given::visits` meets its contract: the points before p are visited. Assumes nothing.
use Rattle.std.proofs.Common.{◌≡◌}
use Rattle.proposer.specs.Fold.{fold_below}
use Rattle.proposer.specs.Passes.{visit}
use Rattle.iterator.specs.Given.{table_of, thresholds_of, held_by, state_by, Ready}
use Rattle.iterator.proofs.given.Given.visits.Given as goal

abbrev pub invariant-loop-p : goal.invariant-loop-p
invariant-loop-p l =
    let g = l.fn.self in
    (state_by g l.state ≡ fold_below (visit (table_of g) (thresholds_of g) (held_by g)) (state_by g l.initial.state) l.p) × Ready g l.state.entries
