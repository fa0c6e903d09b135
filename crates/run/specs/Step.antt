-- One step: it takes the whole state and the position in the schedule, and gives the next ones back (document 01, 'The run').
-- Assumes nothing.
use Rattle.std.specs.Prelude.{ℕ, ◌+◌, Bool, true, false, ◌&&◌, List, eqb, ltb, ℤ, pos, negsuc, length}
use Rattle.words.specs.Words.{number_at}
use Rattle.table.specs.Layout.{sizes_of, points_of, nodes_of}
use Rattle.table.specs.Decode.{point_of}
use Rattle.table.specs.Tree.{arith_at, cond_at}
use Rattle.table.specs.Meaning.{result, truth, Evaluation, gives, stops}
use Rattle.table.specs.declared.Point.{Point}
use Rattle.table.specs.declared.Point.TheVariants.{End, Assign, Test, Lock, Unlock}
use Rattle.run.specs.declared.State.{State}
use Rattle.run.specs.declared.Stepped.{Stepped}
use Rattle.run.specs.State.{point_in, owner_in, stop_kind_in, is_free, owns_of, with_point_of, with_value_of, with_owner_of, with_stop_of}

abbrev pub stepped : State → ℕ → Stepped
stepped s at = record { state = s; at = at }

-- ---- what task u does, by what stands at its point; `at` is the position after its own word
-- an assignment to v by what its expression comes to, going on at q; an error 'stops that task at its point with its locks'
unfoldable pub assign_by : Evaluation ℤ → State → ℕ → ℕ → ℕ → Stepped
assign_by (gives z at) s u v q = stepped (with_point_of (with_value_of s v z) u q) at
assign_by (stops n k at) s u v q = stepped (with_stop_of s u n k) at

-- a test, going on at y or at n
unfoldable pub test_by : Evaluation Bool → State → ℕ → ℕ → ℕ → Stepped
test_by (gives true at) s u y n = stepped (with_point_of s u y) at
test_by (gives false at) s u y n = stepped (with_point_of s u n) at
test_by (stops e k at) s u y n = stepped (with_stop_of s u e k) at

-- a lock: the mutex is free, or 'a lock on an owned mutex (its own included) changes nothing'
unfoldable pub lock_by : Bool → State → ℕ → ℕ → ℕ → State
lock_by true s u m q = with_point_of (with_owner_of s m (pos u)) u q
lock_by false s u m q = s

-- an unlock: the mutex is the task's own, or 'an unlock by a non-owner changes nothing'
unfoldable pub unlock_by : Bool → State → ℕ → ℕ → ℕ → State
unlock_by true s u m q = with_point_of (with_owner_of s m (negsuc 0)) u q
unlock_by false s u m q = s

unfoldable pub act_of : List ℤ → List ℤ → Point → State → ℕ → ℕ → Stepped
act_of t ws End s u at = stepped s at
act_of t ws (Assign v e q) s u at = assign_by (result (arith_at (nodes_of t) e) s.values ws at) s u v q
act_of t ws (Test c y n) s u at = test_by (truth (cond_at (nodes_of t) c) s.values ws at) s u y n
act_of t ws (Lock m q) s u at = stepped (lock_by (is_free (owner_in s m)) s u m q) at
act_of t ws (Unlock m q) s u at = stepped (unlock_by (owns_of s u m) s u m q) at

-- ---- the task word: a task that hasn't stopped acts; 'a number that is no task, an ended or stopped task changes nothing'
unfoldable pub runs_of : List ℤ → State → ℕ → Bool
runs_of t s u = ltb u (sizes_of t).tasks && eqb (stop_kind_in s u) 0

unfoldable pub turn_by : Bool → List ℤ → List ℤ → State → ℕ → ℕ → Stepped
turn_by true t ws s u at = act_of t ws (point_of (points_of t) (point_in s u)) s u at
turn_by false t ws s u at = stepped s at

unfoldable pub turn_of : List ℤ → List ℤ → State → ℕ → ℕ → Stepped
turn_of t ws s u at = turn_by (runs_of t s u) t ws s u at

-- 'a step reads a task word from the schedule'; with no word left there is no step
unfoldable pub step_by : Bool → List ℤ → List ℤ → State → ℕ → Stepped
step_by true t ws s at = turn_of t ws s (number_at ws at) (at + 1)
step_by false t ws s at = stepped s at

unfoldable pub step_of : List ℤ → List ℤ → State → ℕ → Stepped
step_of t ws s at = step_by (ltb at (length ws)) t ws s at
