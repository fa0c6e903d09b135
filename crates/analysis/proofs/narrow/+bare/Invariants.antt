-- `analysis::narrow::bare` meets its contract: a 'not' is one step of the definitions, and no other shape is. The node's number falls at each call.
-- Assumes nothing.
use Rattle.analysis.proofs.narrow.+bare.Given as goal

abbrev pub decreases-bare : goal.decreases-bare
decreases-bare l = l.n
