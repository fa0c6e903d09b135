-- The alarms of points: those of the expression at a point, on its row (document 01, 'Refusals of a check').
-- Assumes nothing.
use Rattle.std.specs.Prelude.{ℕ, zero, suc, Bool, true, false, not, List, [], ◌++◌, ltb, ℤ}
use Rattle.table.specs.Layout.{points_of, nodes_of}
use Rattle.table.specs.Decode.{point_of}
use Rattle.table.specs.Tree.{arith_at, cond_at}
use Rattle.table.specs.declared.Point.{Point}
use Rattle.table.specs.declared.Point.TheVariants.{End, Assign, Test, Lock, Unlock}
use Rattle.analysis.specs.declared.Alarm.{Alarm}
use Rattle.analysis.specs.declared.Row.{Row}
use Rattle.analysis.specs.Rows.{own_of}
use Rattle.analysis.specs.Analysis.{alarms_of, cond_alarms_of}
use Rattle.rules.specs.Proposal.{reached_of, row_at}

unfoldable pub alarms_by : List ℤ → Point → Row → List Alarm
alarms_by t End r = []
alarms_by t (Assign v e q) r = alarms_of (arith_at (nodes_of t) e) (own_of r)
alarms_by t (Test c y n) r = cond_alarms_of (cond_at (nodes_of t) c) (own_of r)
alarms_by t (Lock m q) r = []
alarms_by t (Unlock m q) r = []

unfoldable pub alarms_if : Bool → List Alarm → List Alarm
alarms_if true l = l
alarms_if false l = []

-- those of a point, if it is reached
unfoldable pub alarms_at : List ℤ → List ℤ → ℕ → List Alarm
alarms_at t w p = alarms_if (reached_of w p) (alarms_by t (point_of (points_of t) p) (row_at t w p))

-- those of the points from one on and below another, in their order
unfoldable pub alarms_in : List ℤ → List ℤ → ℕ → ℕ → List Alarm
alarms_in t w from zero = []
alarms_in t w from (suc p) = alarms_in t w from p ++ alarms_if (not (ltb p from)) (alarms_at t w p)
