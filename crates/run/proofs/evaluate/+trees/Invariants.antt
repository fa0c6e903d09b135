-- The functions of `run::evaluate` that call each other: twice the node's number falls at each call, with one more for `operand`, which calls `value` on
-- its own node. Assumes nothing.
use Prim.Native.Nat.{◌+◌, ◌*◌}
use Rattle.run.proofs.evaluate.+trees.Given as goal

abbrev pub decreases-operand : goal.decreases-operand
decreases-operand l = 2 * l.n + 1

abbrev pub decreases-value : goal.decreases-value
decreases-value l = 2 * l.n

abbrev pub decreases-verity : goal.decreases-verity
decreases-verity l = 2 * l.n
