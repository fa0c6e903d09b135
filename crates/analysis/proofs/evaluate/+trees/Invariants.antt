-- The functions of `analysis::evaluate` that call each other meet their contracts: at each shape the calls on the children, whose numbers are smaller,
-- and the operation that joins their results are one step of the tree's definition, the marks are made in the order of its alarms, and each row is
-- what the call before left in its place. Eight times the node's number falls at each call, with one to four more for the functions that call others on
-- their own nodes.
-- Assumes nothing.
use Prim.Native.Nat.{◌+◌, ◌*◌, max}
use Rattle.analysis.proofs.evaluate.+trees.Given as goal

abbrev pub decreases-branch : goal.decreases-branch
decreases-branch l = 8 * l.n + 1

abbrev pub decreases-choose : goal.decreases-choose
decreases-choose l = 8 * max l.c (max l.a l.b) + 4

abbrev pub decreases-choose_by : goal.decreases-choose_by
decreases-choose_by l = 8 * max (max l.c.left l.c.right) (max l.a l.b) + 3

abbrev pub decreases-choose_split : goal.decreases-choose_split
decreases-choose_split l = 8 * max l.c (max l.a l.b) + 2

abbrev pub decreases-cut_branch : goal.decreases-cut_branch
decreases-cut_branch l = 8 * l.n + 2

abbrev pub decreases-cuts_on : goal.decreases-cuts_on
decreases-cuts_on l = 8 * max l.c.left l.c.right + 1

abbrev pub decreases-split : goal.decreases-split
decreases-split l = 8 * l.n

abbrev pub decreases-split_apart : goal.decreases-split_apart
decreases-split_apart l = 8 * max l.a l.b + 3

abbrev pub decreases-split_by : goal.decreases-split_by
decreases-split_by l = 8 * max l.c.left l.c.right + 2

abbrev pub decreases-split_in_turn : goal.decreases-split_in_turn
decreases-split_in_turn l = 8 * max l.a l.b + 1

abbrev pub decreases-split_joined : goal.decreases-split_joined
decreases-split_joined l = 8 * max l.a l.b + 4

abbrev pub decreases-split_turned : goal.decreases-split_turned
decreases-split_turned l = 8 * max l.a l.b + 2

abbrev pub decreases-value : goal.decreases-value
decreases-value l = 8 * l.n
