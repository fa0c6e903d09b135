-- The nearest of the thresholds before this one.
-- Assumes nothing.
use mathlib.Core.Path.{◌≡◌}
use Rattle.proposer.specs.Widen.{ceil_of}
use Rattle.iterator.proofs.nearest.ceil.Given as goal

abbrev pub invariant-loop-t : goal.invariant-loop-t
invariant-loop-t l = l.nearest ≡ ceil_of l.ts l.t-index l.z
