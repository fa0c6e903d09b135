-- `table::validate::first_node`: each node before n passes refusal 4, and its uses are counted. Assumes nothing.
use Rattle.std.specs.Prelude.{None}
use Rattle.table.specs.Layout.{nodes_of}
use Rattle.table.specs.Uses.{node_refs}
use Rattle.table.specs.Validate.{rule4}
use Rattle.table.specs.Walk.{Walked}
use Rattle.table.proofs.validate.first_node.Given as goal

abbrev pub invariant-loop-n : goal.invariant-loop-n
invariant-loop-n l = Walked (rule4 l.t) (node_refs (nodes_of l.t)) l.n l.initial.counts l.counts None
