-- `rules::point::assign_fits` meets its contract: what is written has its ends in order. Assumes nothing.
use mathlib.Core.Path.{refl}
use Rattle.rules.proofs.OrderedLaws.{value-ordered}
use Rattle.rules.proofs.point.assign_fits.Goals as goal

pub written_within-requires-clause-in_order : goal.written_within-requires-clause-in_order
written_within-requires-clause-in_order c = (value-ordered _ _ c.value_on.ensures.value c.in-Some.is, refl)
