-- The outcomes of a reached point: where a task goes on, the held set that it brings, and the row that holds then (document 01, 'Proposal').
-- Assumes nothing.
use Rattle.std.specs.Prelude.{ℕ, Bool, true, false, not, List, [], ◌∷◌, ◌++◌, ℤ, set, None, Option, Some}
use Rattle.words.specs.First.{all_below}
use Rattle.interval.specs.Lattice.{is_none_of, within_of, meet_of}
use Rattle.interval.specs.declared.Interval.{Interval}
use Rattle.table.specs.Layout.{sizes_of, points_of, nodes_of}
use Rattle.table.specs.Decode.{point_of}
use Rattle.table.specs.Tree.{arith_at, cond_at}
use Rattle.table.specs.declared.Point.{Point}
use Rattle.table.specs.declared.Point.TheVariants.{End, Assign, Test, Lock, Unlock}
use Rattle.analysis.specs.declared.Row.{Row}
use Rattle.analysis.specs.Rows.{row_of, range_of, own_of, row_if, each}
use Rattle.analysis.specs.Analysis.{value_of, narrow_of}
use Rattle.rules.specs.Held.{has_of, with_of, without_of}
use Rattle.rules.specs.Proposal.{held_of, row_at, rest_at}
use Rattle.std.specs.Int.{int_min, int_max}
use Rattle.interval.specs.Interval.{span}

pub record Outcome : Type 0 where
  pub target : ℕ
  pub held : ℕ
  pub row : Row

-- ---- rows of n variables
-- r lies within s
unfoldable pub row_within_of : ℕ → Row → Row → Bool
row_within_of n r s = all_below (λ v. within_of (range_of r v) (range_of s v)) n

-- r met with s, 'unless empty'
unfoldable pub meet_rows_of : ℕ → Row → Row → Option Row
meet_rows_of n r s =
    row_if (all_below (λ v. not (is_none_of (meet_of (range_of r v) (range_of s v)))) n)
    (Some (row_of (each int_max r.lows s.lows) (each int_min r.highs s.highs)))

-- ---- 'assign, the row with the written interval, unless none'
unfoldable pub assigned : Option Interval → ℕ → Row → Option Row
assigned None v r = None
assigned (Some e) v r = Some (row_of (set r.lows v e.low) (set r.highs v e.high))

-- what an assignment at this point writes, on the row in sixteen slots
unfoldable pub written_of : List ℤ → ℕ → Row → Option Interval
written_of t e r = value_of (arith_at (nodes_of t) e) (own_of r)

-- ---- an outcome, or none
unfoldable pub outcome_if : Option Row → ℕ → ℕ → List Outcome
outcome_if None s q = []
outcome_if (Some r) s q = record { target = q; held = s; row = r } ∷ []

-- 'lock m, if m isn't held'; 'unlock m, if m is held'
unfoldable pub only_if : Bool → List Outcome → List Outcome
only_if true l = l
only_if false l = []

-- by the rest row of each mutex, what stands at the point, its held set s and its row r: 'assign, the row with the written interval, unless none;
-- test, each side whose narrowing isn't none; lock m, if m isn't held, the row met with m's rest row, unless empty, held set with m; unlock m, if m
-- is held, the same row, held set without m. Otherwise there is no outcome'
unfoldable pub outcomes_with : List ℤ → (ℕ → Row) → Point → ℕ → Row → List Outcome
outcomes_with t rest End s r = []
outcomes_with t rest (Assign v e q) s r = outcome_if (assigned (written_of t e r) v r) s q
outcomes_with t rest (Test c y n) s r =
    outcome_if (narrow_of (cond_at (nodes_of t) c) true (own_of r)) s y ++ outcome_if (narrow_of (cond_at (nodes_of t) c) false (own_of r)) s n
outcomes_with t rest (Lock m q) s r = only_if (not (has_of s m)) (outcome_if (meet_rows_of (sizes_of t).variables r (rest m)) (with_of s m) q)
outcomes_with t rest (Unlock m q) s r = only_if (has_of s m) (outcome_if (Some r) (without_of s m) q)

-- with the rest rows of the proposal
unfoldable pub outcomes_by : List ℤ → List ℤ → Point → ℕ → Row → List Outcome
outcomes_by t w x s r = outcomes_with t (λ m. rest_at t w m) x s r

unfoldable pub outcomes_of : List ℤ → List ℤ → ℕ → List Outcome
outcomes_of t w p = outcomes_by t w (point_of (points_of t) p) (held_of w p) (row_at t w p)
