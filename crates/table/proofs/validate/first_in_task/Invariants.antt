-- `table::validate::first_in_task`: each point before p passes refusal 5, and its uses are counted. Assumes nothing.
use Rattle.std.specs.Prelude.{None}
use Rattle.table.specs.Layout.{points_of, first_of}
use Rattle.table.specs.Uses.{point_refs}
use Rattle.table.specs.Validate.{rule5}
use Rattle.table.specs.Walk.{WalkedOn}
use Rattle.table.proofs.validate.first_in_task.Given as goal

abbrev pub invariant-loop-p : goal.invariant-loop-p
invariant-loop-p l = WalkedOn (rule5 l.t) (point_refs (points_of l.t)) (first_of l.t l.u) l.p l.initial.counts l.counts None
