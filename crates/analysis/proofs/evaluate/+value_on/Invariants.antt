-- `analysis::evaluate::value_on` meets its contract: as `value` on a row in an array, one step of the tree's definition at each kind; for a choice the
-- row is put into an array. The node's number falls at each call.
-- Assumes nothing.
use Rattle.analysis.proofs.evaluate.+value_on.Given as goal

abbrev pub decreases-value_on : goal.decreases-value_on
decreases-value_on l = l.n
