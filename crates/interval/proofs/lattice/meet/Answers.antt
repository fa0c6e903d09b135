-- `interval::lattice::meet` meets its contract: what `taken` gives of each side decides the definition, and the calls give the ends of the result.
-- Assumes nothing.
use mathlib.Core.Path.{sym, ◌∙◌}
use borrow.Author.Rules.{rules}
use Rattle.interval.specs.Lattice.{meet_of}
use Rattle.interval.proofs.IntervalLaws.{taken-ends}
use Rattle.interval.proofs.lattice.meet.Goals as goal

pub returns : goal.returns
unfolding meet_of
returns c =
    let x_ends = sym c.taken.ensures ∙ c.in_ok-x.was in
    let y_ends = sym c.taken-2.ensures ∙ c.in_ok-y.was in
    rw (taken-ends _ _ _ _ _ x_ends, taken-ends _ _ _ _ _ y_ends) (search rules)
