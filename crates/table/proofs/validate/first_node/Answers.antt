-- `table::validate::first_node` meets its contract: the walk goes on past a node that passes, and stops at one that does not. Assumes nothing.
use Rattle.table.proofs.WalkLaws.{walk_none, walk_next, walk_stop}
use Rattle.table.proofs.validate.first_node.Goals as goal

pub loop-n-init : goal.loop-n-init
loop-n-init c = walk_none

pub returns-then-not-node_ok : goal.returns-then-not-node_ok
returns-then-not-node_ok c =
    walk_stop c.loop-n.invariant (c.node_ok.ensures c.args.t.now c.sizes-s.ensures.value c.node_words-nodes.ensures) c.if-not-node_ok.true
    (rw c.sizes-s.ensures.value at c.loop-n-test.true)

pub loop-n-preserved : goal.loop-n-preserved
loop-n-preserved c =
    walk_next c.loop-n.invariant (c.node_ok.ensures c.args.t.now c.sizes-s.ensures.value c.node_words-nodes.ensures) c.if-not-node_ok.false
