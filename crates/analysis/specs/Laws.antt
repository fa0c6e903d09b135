-- What the analysis means for the evaluation of trees, for every tree, row, values within the row, schedule and position. The function `laws_hold`
-- has these laws as its contract; they are all that a whole run needs of this crate.
-- Assumes nothing.
use Rattle.std.specs.Prelude.{ℕ, ◌<◌, ◌≤◌, ◌≡◌, Bool, true, not, cond, List, ◌⊎◌, ℤ, length, get_or, replicate, eqb}
use Rattle.interval.specs.Interval.{Holds}
use Rattle.interval.specs.Compare.{allows}
use Rattle.interval.specs.Narrow.{cuts_of}
use Rattle.interval.specs.declared.Comparison.{Comparison}
use Rattle.table.specs.Tree.{Arith, Cond, compare}
use Rattle.table.specs.Meaning.{result, truth, gives, stops}
use Rattle.analysis.specs.declared.Alarm.{Alarm}
use Rattle.analysis.specs.Rows.{Row, Inside, Kept, MaybeWithin}
use Rattle.analysis.specs.Alarms.{lists, place_of, marked_of}
use Rattle.analysis.specs.Analysis.{value_of, alarms_of, decision_of, cond_alarms_of, narrow_of}
use Rattle.analysis.specs.Cuts.{variable_or, cut_row_of}
use Rattle.analysis.specs.Bare.{bare_of, turned_of}
use Rattle.analysis.specs.Reads.{reads, cond_reads, Agree, NoneEmpty, Paired}

abbrev pub IsKind : ℕ → Type 0
IsKind k = (k ≡ 1) ⊎ (k ≡ 2)

pub record Kinds (l : List Alarm) : Type 0 where
  pub kind : (n k : ℕ) → lists n k l ≡ true → IsKind k

pub record Laws : Type 0 where
  -- a value that evaluation gives lies in the interval
  pub value-contains : (x : Arith) (r : Row) (vs ws : List ℤ) (p : ℕ) → Inside vs r → (z : ℤ) (q : ℕ) → result x vs ws p ≡ gives z q → Holds (value_of x r) z
  -- an error that ends it is among the alarms
  pub error-listed : (x : Arith) (r : Row) (vs ws : List ℤ) (p : ℕ) → Inside vs r → (n k q : ℕ) → result x vs ws p ≡ stops n k q → lists n k (alarms_of x r) ≡ true
  -- a condition's truth is one that the decision allows
  pub truth-allowed : (c : Cond) (r : Row) (vs ws : List ℤ) (p : ℕ) → Inside vs r → (b : Bool) (q : ℕ) → truth c vs ws p ≡ gives b q → allows (decision_of c r) b ≡ true
  pub failure-listed : (c : Cond) (r : Row) (vs ws : List ℤ) (p : ℕ) → Inside vs r → (n k q : ℕ) → truth c vs ws p ≡ stops n k q → lists n k (cond_alarms_of c r) ≡ true
  -- the row narrowed by that truth isn't none, and the values lie within it
  pub narrow_keeps : (c : Cond) (r : Row) (vs ws : List ℤ) (p : ℕ) → Inside vs r → (b : Bool) (q : ℕ) → truth c vs ws p ≡ gives b q → Kept vs (narrow_of c b r)
  -- a narrowed row lies within the row it came from
  pub narrow_within : (c : Cond) (w : Bool) (r : Row) → MaybeWithin (narrow_of c w r) r
  -- a comparison writes at most two intervals into a row of sixteen slots: the cuts of those of its sides that are variables
  pub narrow_cuts :
      (n : ℕ) (k : Comparison) (x y : Arith) (w : Bool) (r : Row)
      → length r.lows ≤ 16
      → length r.highs ≤ 16
      → narrow_of (compare n k x y) w r ≡ cut_row_of r (variable_or 16 x) (variable_or 17 y) (cuts_of k w (value_of x r) (value_of y r))
  -- a 'not' leaves of a row what the condition under it leaves by the opposite truth, and has its alarms
  pub narrow-bare : (c : Cond) (w : Bool) (r : Row) → narrow_of c w r ≡ narrow_of (bare_of c) (cond (turned_of c) (not w) w) r
  pub alarms-bare : (c : Cond) (r : Row) → cond_alarms_of c r ≡ cond_alarms_of (bare_of c) r
  -- every alarm is of kind 1 or 2, and the marks of a list of such alarms are that set of pairs
  pub alarms-kinds : (x : Arith) (r : Row) → Kinds (alarms_of x r)
  pub cond_alarms-kinds : (c : Cond) (r : Row) → Kinds (cond_alarms_of c r)
  pub marked-lists : (l : List Alarm) (room n k : ℕ) → Kinds l → IsKind k → place_of n k < room → eqb (get_or (marked_of (replicate room 0) l) (place_of n k) 0) 1 ≡ lists n k l
  -- two rows that agree on every variable that a tree reads give it the same interval, or decision, and the same alarms. This holds of rows with empty
  -- intervals too; a row of a table has as many high ends as low ends
  pub value-agrees : (x : Arith) (r s : Row) → Paired r → Paired s → Agree (reads x) r s → (value_of x r ≡ value_of x s) × (alarms_of x r ≡ alarms_of x s)
  pub decision-agrees : (c : Cond) (r s : Row) → Paired r → Paired s → Agree (cond_reads c) r s → (decision_of c r ≡ decision_of c s) × (cond_alarms_of c r ≡ cond_alarms_of c s)
  -- the same as it was asked for: 'two rows without empty intervals which agree on every variable read anywhere in a condition'
  pub decision-agrees-none-empty :
      (c : Cond) (r s : Row) → Paired r → Paired s → NoneEmpty r → NoneEmpty s → Agree (cond_reads c) r s → (decision_of c r ≡ decision_of c s) × (cond_alarms_of c r ≡ cond_alarms_of c s)
