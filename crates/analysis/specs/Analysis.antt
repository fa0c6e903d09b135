-- What the analysis says of a tree on a row: the interval of arithmetic, the decision and the narrowing of a condition, and the alarms of both
-- (document 01, 'Intervals', and document 02, request 2).
-- Assumes nothing.
use Rattle.std.specs.Prelude.{Bool, true, false, List, [], ◌++◌, pos, None, Option, Some}
use Rattle.interval.specs.Lattice.{join_of}
use Rattle.interval.specs.Arithmetic.{negate_of, operate_of}
use Rattle.interval.specs.Compare.{decision, allows, both_of, either_of, opposite_of, compare_of}
use Rattle.interval.specs.Narrow.{cuts_of}
use Rattle.interval.specs.declared.Interval.{Interval}
use Rattle.interval.specs.declared.Decision.{Decision}
use Rattle.interval.specs.declared.Cuts.{Cuts}
use Rattle.table.specs.Tree.{Arith, constant, input, variable, negation, binary, choice, no_arith, Cond, compare, both, either, is_not, no_cond}
use Rattle.analysis.specs.declared.Alarm.{Alarm}
use Rattle.analysis.specs.Rows.{Row, range_of, row_if, then_row, meet_at_of, join_rows_of}
use Rattle.analysis.specs.Alarms.{told_of}
use Rattle.std.specs.Int.{int_max}
use Rattle.interval.specs.Interval.{span}

-- ---- the branches of a choice: 'the then branch's row is now always first narrowed by the condition, the else branch's by its opposite'
-- the row of the branch for w, s being the row narrowed so: 'a branch is taken if the condition allows it as before and its narrowing isn't none'
abbrev pub branch_of : Decision → Bool → Option Row → Option Row
branch_of d w s = row_if (allows d w) s

-- 'a branch with none is left out'
unfoldable pub range_on : Option Row → (Row → Option Interval) → Option Interval
range_on None f = None
range_on (Some r) f = f r

unfoldable pub alarms_on : Option Row → (Row → List Alarm) → List Alarm
alarms_on None f = []
alarms_on (Some r) f = f r

-- ---- narrowing by a comparison
-- the row, where the tree is known to lie in s: 'only variable nodes carry the cut back to the row', as the meet with what the row has; 'an empty
-- interval gives none'
unfoldable pub carry_of : Arith → Option Interval → Row → Option Row
carry_of x None r = None
carry_of (constant n z) (Some e) r = Some r
carry_of (input n l h) (Some e) r = Some r
carry_of (variable n v) (Some e) r = meet_at_of r v (span e.low e.high)
carry_of (negation n x) (Some e) r = Some r
carry_of (binary n op x y) (Some e) r = Some r
carry_of (choice n c x y) (Some e) r = Some r
carry_of (no_arith n) (Some e) r = Some r

-- both sides' cuts, which were made from the ends before: 'one variable on both sides takes the meet of its two cuts'
unfoldable pub carry_both_of : Arith → Arith → Cuts → Row → Option Row
carry_both_of x y u r = then_row (carry_of x u.left r) (λ s. carry_of y u.right s)

-- ---- the trees. A node that is no arithmetic is 0, one that is no condition is false, and an input with its ends the wrong way round is its low
-- end, as in the run
unfoldable mutual
  pub value_of : Arith → Row → Option Interval
  value_of (constant n z) r = span z z
  value_of (input n a b) r = span a (int_max a b)
  value_of (variable n v) r = range_of r v
  value_of (negation n x) r = (negate_of (value_of x r)).range
  value_of (binary n op x y) r = (operate_of op (value_of x r) (value_of y r)).range
  -- 'join of the branches its condition allows', each on its own row
  value_of (choice n c x y) r =
      join_of
      (range_on (branch_of (decision_of c r) true (narrow_of c true r)) (λ s. value_of x s))
      (range_on (branch_of (decision_of c r) false (narrow_of c false r)) (λ s. value_of y s))
  value_of (no_arith n) r = span (pos 0) (pos 0)

  -- 'alarms of both operands always count'; of a choice 'alarms of the condition', on the row that came in, and of every branch that is taken, on its own,
  -- 'no others'
  pub alarms_of : Arith → Row → List Alarm
  alarms_of (constant n z) r = []
  alarms_of (input n a b) r = []
  alarms_of (variable n v) r = []
  alarms_of (negation n x) r = alarms_of x r ++ told_of n (negate_of (value_of x r))
  alarms_of (binary n op x y) r = alarms_of x r ++ (alarms_of y r ++ told_of n (operate_of op (value_of x r) (value_of y r)))
  alarms_of (choice n c x y) r =
      cond_alarms_of c r
      ++ (alarms_on (branch_of (decision_of c r) true (narrow_of c true r)) (λ s. alarms_of x s)
      ++ alarms_on (branch_of (decision_of c r) false (narrow_of c false r)) (λ s. alarms_of y s))
  alarms_of (no_arith n) r = []

  -- 'which of true and false are possible'
  pub decision_of : Cond → Row → Decision
  decision_of (compare n k x y) r = compare_of k (value_of x r) (value_of y r)
  decision_of (both n c d) r = both_of (decision_of c r) (decision_of d r)
  decision_of (either n c d) r = either_of (decision_of c r) (decision_of d r)
  decision_of (is_not n c) r = opposite_of (decision_of c r)
  decision_of (no_cond n) r = decision false true

  pub cond_alarms_of : Cond → Row → List Alarm
  cond_alarms_of (compare n k x y) r = alarms_of x r ++ alarms_of y r
  cond_alarms_of (both n c d) r = cond_alarms_of c r ++ cond_alarms_of d r
  cond_alarms_of (either n c d) r = cond_alarms_of c r ++ cond_alarms_of d r
  cond_alarms_of (is_not n c) r = cond_alarms_of c r
  cond_alarms_of (no_cond n) r = []

  -- 'both narrows left, then right; either joins the two'; 'a wanted "no" uses the opposite condition (not both is either of the opposites)'
  pub narrow_of : Cond → Bool → Row → Option Row
  narrow_of (compare n k x y) w r = carry_both_of x y (cuts_of k w (value_of x r) (value_of y r)) r
  narrow_of (both n c d) true r = then_row (narrow_of c true r) (λ s. narrow_of d true s)
  narrow_of (both n c d) false r = join_rows_of (narrow_of c false r) (narrow_of d false r)
  narrow_of (either n c d) true r = join_rows_of (narrow_of c true r) (narrow_of d true r)
  narrow_of (either n c d) false r = then_row (narrow_of c false r) (λ s. narrow_of d false s)
  narrow_of (is_not n c) true r = narrow_of c false r
  narrow_of (is_not n c) false r = narrow_of c true r
  narrow_of (no_cond n) true r = None
  narrow_of (no_cond n) false r = Some r
