-- `table::validate::first_point`: each point before the first of task u passes refusal 5, and its uses are counted. Assumes nothing.
use Rattle.std.specs.Prelude.{None}
use Rattle.table.specs.Layout.{points_of, first_of}
use Rattle.table.specs.Uses.{point_refs}
use Rattle.table.specs.Validate.{rule5}
use Rattle.table.specs.Walk.{Walked}
use Rattle.table.proofs.validate.first_point.Given as goal

abbrev pub invariant-loop-u : goal.invariant-loop-u
invariant-loop-u l = Walked (rule5 l.t) (point_refs (points_of l.t)) (first_of l.t l.u) l.initial.counts l.counts None
