-- `iterator::given::Given::passes` meets its contract: what is left of `made_from` after some passes is what there is to be made. Assumes nothing.
use Rattle.proposer.specs.Passes.{pass_of, pass_bound}
use Rattle.iterator.specs.Given.{table_of, thresholds_of, held_by, state_by, Ready}
use Rattle.iterator.proofs.PassesLaws.{Making}
use Rattle.iterator.proofs.given.Given.passes.Given as goal

abbrev pub invariant-loop-made : goal.invariant-loop-made
invariant-loop-made l =
    let g = l.fn.self in
    Making (pass_of (table_of g) (thresholds_of g) (held_by g)) (pass_bound (table_of g) (thresholds_of g)) (state_by g l.initial.state) (state_by g l.state) l.made
    × Ready g l.state.entries
