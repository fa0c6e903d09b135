-- What leaving a point comes to, by what stands there: which rows are taken in, and where.
-- Assumes nothing.
use Rattle.std.proofs.Common.{◌≡◌, ℕ, ◌+◌, ◌<◌, Bool, true, false, List, [], ◌∷◌, ◌++◌, ℤ, get_or, set, refl, sym, ap, ◌∙◌, arith}
use Rattle.std.specs.Prelude.{Option, None, Some}
use Rattle.interval.specs.declared.Interval.{Interval}
use Rattle.table.specs.Layout.{sizes_of, points_of, nodes_of, task_of}
use Rattle.table.specs.Decode.{point_of}
use Rattle.table.specs.Tree.{arith_at, cond_at}
use Rattle.table.specs.declared.checked.Table.{Table}
use Rattle.table.specs.declared.Point.TheVariants.{End, Assign, Test, Lock, Unlock}
use Rattle.analysis.specs.declared.Row.{Row}
use Rattle.analysis.specs.Rows.{row_of, own_of, maybe_by}
use Rattle.analysis.specs.Arrays.{is_some, left_of}
use Rattle.analysis.proofs.RowCodeLaws.{left-again}
use Rattle.analysis.specs.Analysis.{value_of, narrow_of}
use Rattle.rules.specs.Held.{has_of}
use Rattle.rules.specs.Outcomes.{Outcome, meet_rows_of, assigned, written_of, outcome_if, only_if, outcomes_with}
use Rattle.proposer.specs.Widen.{trimmed_of, Places, place_in, take_in}
use Rattle.proposer.specs.Passes.{State, row_in, code_of, slot_of, take_all, rested_by, file_in, filed_by, written_to, leave_by, leave}
use Rattle.iterator.specs.declared.plan.Plan.{Plan}
use Rattle.iterator.specs.declared.places.State.{State as Kept}
use Rattle.iterator.specs.Arrays.{Clear, rows_by, rows_in, state_in}
use Rattle.iterator.specs.Plan.{held_in, is_assign, Planned}

-- outcomes taken in one list after the other
all_after : (place : Outcome → ℕ) (n : ℕ) (ts : List ℤ) (a : Places) (l m : List Outcome)
    → take_all place n ts a (l ++ m) ≡ take_all place n ts (take_all place n ts a l) m
unfolding take_all
all_after place n ts a [] m = refl
all_after place n ts a (o ∷ l) m = all_after place n ts (take_in n ts a (place o) o.row) l m

module _ (t ts : List ℤ) (h : ℕ → ℕ) (s : State) (p : ℕ) (x : Row) where
  -- the rows with r taken in at k; the rows with an outcome, if there is one, taken in at its target
  abbrev takes : Places → ℕ → Row → Places
  takes a k r = take_in (sizes_of t).variables ts a k r

  abbrev pub takes_if : Places → ℕ → Option Row → Places
  takes_if a q m = take_all (λ o. o.target) (sizes_of t).variables ts a (outcome_if m (h p) q)

  abbrev rest : ℕ → Row
  rest m = row_in (sizes_of t).variables (place_in s.rows ((sizes_of t).points + m))

  abbrev Left : State → Type 0
  Left after = after ≡ leave_by t ts h (Some x) s p

  pub end-left : point_of (points_of t) p ≡ End → Left s
  unfolding leave_by outcomes_with take_all rested_by filed_by
  end-left stands = rw stands refl

  module _ {v e q : ℕ} (stands : point_of (points_of t) p ≡ Assign v e q) where
    pub assign-none : written_of t e x ≡ None → Left s
    unfolding leave_by outcomes_with assigned outcome_if take_all rested_by filed_by file_in
    assign-none w = rw (stands, w) refl

    pub assign-some : {i : Interval} → written_of t e x ≡ Some i
        → Left (record {
          rows = takes s.rows q (row_of (set x.lows v i.low) (set x.highs v i.high));
          entries = file_in (Some i) (slot_of t h (code_of t (task_of t p) (h p) v)) ts s.entries;
        })
    unfolding leave_by outcomes_with assigned outcome_if take_all rested_by filed_by
    assign-some w = rw (stands, w) refl

  -- what narrowing by the condition c leaves
  abbrev side : ℕ → Bool → Option Row
  side c b = narrow_of (cond_at (nodes_of t) c) b (own_of x)

  pub test-both : {c y n : ℕ} → point_of (points_of t) p ≡ Test c y n
      → Left (record { rows = takes_if (takes_if s.rows y (side c true)) n (side c false); entries = s.entries })
  unfolding leave_by outcomes_with rested_by filed_by
  test-both {c} {y} {n} stands =
      rw (stands, all_after (λ o. o.target) (sizes_of t).variables ts s.rows (outcome_if (side c true) (h p) y) (outcome_if (side c false) (h p) n)) refl

  module _ {m q : ℕ} (stands : point_of (points_of t) p ≡ Lock m q) where
    pub lock-held : has_of (h p) m ≡ true → Left s
    unfolding leave_by outcomes_with only_if take_all rested_by filed_by
    lock-held e = rw (stands, e) refl

    pub lock-apart : has_of (h p) m ≡ false → meet_rows_of (sizes_of t).variables x (rest m) ≡ None → Left s
    unfolding leave_by outcomes_with only_if outcome_if take_all rested_by filed_by
    lock-apart e f = rw (stands, e, f) refl

    pub lock-met : {r : Row} → has_of (h p) m ≡ false → meet_rows_of (sizes_of t).variables x (rest m) ≡ Some r
        → Left (record { rows = takes s.rows q r; entries = s.entries })
    unfolding leave_by outcomes_with only_if outcome_if take_all rested_by filed_by
    lock-met e f = rw (stands, e, f) refl

  module _ {m q : ℕ} (stands : point_of (points_of t) p ≡ Unlock m q) where
    pub unlock-free : has_of (h p) m ≡ false → Left s
    unfolding leave_by outcomes_with only_if take_all rested_by filed_by
    unlock-free e = rw (stands, e) refl

    pub unlock-held : has_of (h p) m ≡ true → Left (record { rows = takes (takes s.rows q x) ((sizes_of t).points + m) x; entries = s.entries })
    unfolding leave_by outcomes_with only_if outcome_if take_all rested_by filed_by
    unlock-held e = rw (stands, e) refl

-- ---- as code evaluates on the row in its slots
pub written-clear : (t : Table) (n e : ℕ) {row : Row} {x : Option Interval} → Clear n row → x ≡ value_of (arith_at t.nodes.now e) row
    → written_of t.words.now e (trimmed_of n row) ≡ x
unfolding written_of
written-clear t n e {row} clear read =
    ap (λ (r : Row). value_of (arith_at (nodes_of t.words.now) e) r) (sym clear) ∙ ap (λ (l : List ℤ). value_of (arith_at l e) row) (sym t.cut.nodes) ∙ sym read

-- the place of the entry that an assignment writes
pub slot-is : {t : List ℤ} {plan : Plan} {v e q : ℕ} (p : ℕ) → Planned t plan → p < (sizes_of t).points → point_of (points_of t) p ≡ Assign v e q
    → slot_of t (held_in plan) (code_of t (task_of t p) (held_in plan p) v) ≡ Some (get_or plan.places p 0)
unfolding written_to is_assign
slot-is p planned below stands = rw stands at (planned.place p below (rw stands refl))

-- a side of a test, by what narrowing left: whether there is a row, and the row
pub side-clear : (t : Table) (n c : ℕ) (b : Bool) {row r : Row} {there : Bool} → Clear n row → there ≡ is_some (narrow_of (cond_at t.nodes.now c) b row)
    → r ≡ left_of (narrow_of (cond_at t.nodes.now c) b row) → maybe_by there r ≡ narrow_of (cond_at (nodes_of t.words.now) c) b (own_of (trimmed_of n row))
side-clear t n c b {row} clear e f =
    rw (e, f) (left-again (narrow_of (cond_at t.nodes.now c) b row))
    ∙ ap (λ (l : List ℤ). narrow_of (cond_at l c) b row) t.cut.nodes ∙ ap (λ (r : Row). narrow_of (cond_at (nodes_of t.words.now) c) b r) clear

-- ---- the point p, by the row that code read at its place; n is the number of variables, as the code has it
module _ (t ts : List ℤ) (h : ℕ → ℕ) (s : Kept) (p n : ℕ) (few : n ≡ (sizes_of t).variables) (below : p < (sizes_of t).points) where
  pub leave-none : ((c : ℕ) → p < c → None ≡ place_in (rows_by n c s.rows) p) → state_in t s ≡ leave t ts h (state_in t s) p
  unfolding leave leave_by
  leave-none read = let place : None ≡ place_in (rows_in t s.rows) p = rw few at (read ((sizes_of t).points + (sizes_of t).mutexes) (omega arith)) in rw (← place) refl

  pub leave-some : (row : Row) {after : State} → ((c : ℕ) → p < c → Some (trimmed_of n row) ≡ place_in (rows_by n c s.rows) p)
      → after ≡ leave_by t ts h (Some (trimmed_of (sizes_of t).variables row)) (state_in t s) p → after ≡ leave t ts h (state_in t s) p
  unfolding leave
  leave-some row read left =
      let place : Some (trimmed_of (sizes_of t).variables row) ≡ place_in (rows_in t s.rows) p = rw few at (read ((sizes_of t).points + (sizes_of t).mutexes) (omega arith)) in
      rw (← place) left
