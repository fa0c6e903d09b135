-- The passes over rows and entries, by the held sets h of the points (document 02, request 4).
-- Assumes nothing.
use Rattle.std.specs.Prelude.{ℕ, zero, suc, ◌+◌, ◌*◌, Bool, true, false, not, ◌&&◌, ◌||◌, List, [], ◌∷◌, eqb, ltb, ℤ, pos, length, set, replicate, Option, None, Some}
use Rattle.words.specs.Words.{word_of}
use Rattle.words.specs.First.{first_bad}
use Rattle.words.specs.Tabulate.{tabulate}
use Rattle.interval.specs.declared.Interval.{Interval}
use Rattle.table.specs.Layout.{sizes_of, starts_of, points_of, task_of}
use Rattle.table.specs.Decode.{point_of}
use Rattle.table.specs.declared.Point.{Point}
use Rattle.table.specs.declared.Point.TheVariants.{End, Assign, Test, Lock, Unlock}
use Rattle.analysis.specs.declared.Row.{Row}
use Rattle.analysis.specs.Rows.{row_of}
use Rattle.rules.specs.Held.{has_of, disjoint_of}
use Rattle.rules.specs.Outcomes.{Outcome, written_of, outcomes_with}
use Rattle.rules.specs.Rules.{is_first}
use Rattle.proposer.specs.Fold.{fold_below}
use Rattle.proposer.specs.Walk.{sets_of}
use Rattle.proposer.specs.Widen.{Places, place_in, take_in}

-- ---- the state of a pass: the rows of points reached so far and behind them the rest rows, and the entries. An entry stands at the smallest point
-- whose write is filed under it, as a row of one interval
pub record State : Type 0 where
  pub rows : Places
  pub entries : Places

abbrev pub moved_of : State → Bool
moved_of s = s.rows.moved || s.entries.moved

-- 'first points and rest rows begin at the starting values'
unfoldable pub start_if : Bool → List ℤ → Option Row
start_if true t = Some (row_of (starts_of t) (starts_of t))
start_if false t = None

abbrev pub begins : List ℤ → ℕ → Bool
begins t k = not (ltb k (sizes_of t).points) || is_first t k

unfoldable pub start_of : List ℤ → State
start_of t =
    record {
      rows = record { at = tabulate (λ k. start_if (begins t k) t) ((sizes_of t).points + (sizes_of t).mutexes); moved = false };
      entries = record { at = replicate (sizes_of t).points None; moved = false };
    }

-- as a pass begins
abbrev pub quiet : Places → Places
quiet a = record { at = a.at; moved = false }

abbrev pub begun : State → State
begun s = record { rows = quiet s.rows; entries = quiet s.entries }

-- a row, 0 where there is none
unfoldable pub row_in : ℕ → Option Row → Row
row_in n None = row_of (replicate n (pos 0)) (replicate n (pos 0))
row_in n (Some r) = r

-- ---- heads: (task, held set, variable) as one number, in the order 'by task, set, variable'
abbrev pub code_of : List ℤ → ℕ → ℕ → ℕ → ℕ
code_of t u s v = (u * sets_of t + s) * (sizes_of t).variables + v

-- what is written at a point is filed under c
unfoldable pub files_by : List ℤ → Point → ℕ → ℕ → ℕ → Bool
files_by t End u s c = false
files_by t (Assign v e q) u s c = eqb (code_of t u s v) c
files_by t (Test e y n) u s c = false
files_by t (Lock m q) u s c = false
files_by t (Unlock m q) u s c = false

abbrev pub files_at : List ℤ → (ℕ → ℕ) → ℕ → ℕ → Bool
files_at t h c p = files_by t (point_of (points_of t) p) (task_of t p) (h p) c

-- where the entry under c stands: the smallest such point
unfoldable pub slot_of : List ℤ → (ℕ → ℕ) → ℕ → Option ℕ
slot_of t h c = first_bad (λ p. not (files_at t h c p)) (sizes_of t).points

unfoldable pub written_to : Point → ℕ
written_to End = 0
written_to (Assign v e q) = v
written_to (Test e y n) = 0
written_to (Lock m q) = 0
written_to (Unlock m q) = 0

-- ---- 'widened by each entry'
-- r with the interval x at v
abbrev pub with_at : Row → ℕ → Row → Row
with_at r v x = row_of (set r.lows v (word_of x.lows 0)) (set r.highs v (word_of x.highs 0))

-- row k by the entry x of v, where both are
unfoldable pub take_both : Option Row → Option Row → ℕ → List ℤ → Places → ℕ → ℕ → Places
take_both None m n ts a k v = a
take_both (Some x) None n ts a k v = a
take_both (Some x) (Some r) n ts a k v = take_in n ts a k (with_at r v x)

-- by the entry that stands at q, if it is to be taken in
unfoldable pub entry_into : Bool → List ℤ → List ℤ → State → ℕ → ℕ → State
entry_into true t ts s k q =
    record {
      rows = take_both (place_in s.entries q) (place_in s.rows k) (sizes_of t).variables ts s.rows k (written_to (point_of (points_of t) q));
      entries = s.entries;
    }
entry_into false t ts s k q = s

module _ (t ts : List ℤ) (h : ℕ → ℕ) where
  -- 'each entry of another task with a disjoint set'
  unfoldable pub disturb : ℕ → State → ℕ → State
  disturb p s q = entry_into (not (eqb (task_of t q) (task_of t p)) && disjoint_of (h q) (h p)) t ts s p q

  -- 'the entries without its mutex'
  unfoldable pub unguarded : ℕ → State → ℕ → State
  unguarded m s q = entry_into (not (has_of (h q) m)) t ts s ((sizes_of t).points + m) q

-- ---- outcomes
-- the rows of outcomes taken in, each at its place
unfoldable pub take_all : (Outcome → ℕ) → ℕ → List ℤ → Places → List Outcome → Places
take_all place n ts a [] = a
take_all place n ts a (o ∷ l) = take_all place n ts (take_in n ts a (place o) o.row) l

-- 'the rest row by an unlock outcome'
unfoldable pub rested_by : Point → List ℤ → List ℤ → Places → List Outcome → Places
rested_by End t ts a l = a
rested_by (Assign v e q) t ts a l = a
rested_by (Test c y n) t ts a l = a
rested_by (Lock m q) t ts a l = a
rested_by (Unlock m q) t ts a l = take_all (λ o. (sizes_of t).points + m) (sizes_of t).variables ts a l

-- 'the entry by the written interval'
unfoldable pub file_in : Option Interval → Option ℕ → List ℤ → Places → Places
file_in None f ts a = a
file_in (Some e) None ts a = a
file_in (Some e) (Some q) ts a = take_in 1 ts a q (row_of (e.low ∷ []) (e.high ∷ []))

unfoldable pub filed_by : Point → List ℤ → List ℤ → (ℕ → ℕ) → Places → ℕ → Row → Places
filed_by End t ts h a p r = a
filed_by (Assign v e q) t ts h a p r = file_in (written_of t e r) (slot_of t h (code_of t (task_of t p) (h p) v)) ts a
filed_by (Test c y n) t ts h a p r = a
filed_by (Lock m q) t ts h a p r = a
filed_by (Unlock m q) t ts h a p r = a

module _ (t ts : List ℤ) (h : ℕ → ℕ) where
  abbrev pub outcomes_in : State → ℕ → Row → List Outcome
  outcomes_in s p r = outcomes_with t (λ m. row_in (sizes_of t).variables (place_in s.rows ((sizes_of t).points + m))) (point_of (points_of t) p) (h p) r

  -- 'from that row, each target by its outcome (yes before no), the entry by the written interval, the rest row by an unlock outcome'
  unfoldable pub leave_by : Option Row → State → ℕ → State
  leave_by None s p = s
  leave_by (Some r) s p =
      record {
        rows = rested_by (point_of (points_of t) p) t ts (take_all (λ o. o.target) (sizes_of t).variables ts s.rows (outcomes_in s p r)) (outcomes_in s p r);
        entries = filed_by (point_of (points_of t) p) t ts h s.entries p r;
      }

  unfoldable pub leave : State → ℕ → State
  leave s p = leave_by (place_in s.rows p) s p

  -- 'visits every point reached by then: its row is widened by each entry'; an unreached point takes none and has no outcome
  unfoldable pub visit : State → ℕ → State
  visit s p = leave (fold_below (disturb t ts h p) s (sizes_of t).points) p

  -- 'at its end each rest row is widened by the entries without its mutex'
  unfoldable pub rest_visit : State → ℕ → State
  rest_visit s m = fold_below (unguarded t ts h m) s (sizes_of t).points

  -- 'a pass visits in rising order'
  unfoldable pub pass_of : State → State
  pass_of s = fold_below rest_visit (fold_below visit (begun s) (sizes_of t).points) (sizes_of t).mutexes

-- ---- 'the pass that changes nothing is the last'
pub record Made : Type 0 where
  pub state : State
  pub passes : ℕ

unfoldable pub made_if : Bool → Made → Made → Made
made_if true later now = later
made_if false later now = now

-- by at most so many passes, n of them made before
unfoldable pub made_from : (State → State) → ℕ → State → ℕ → Made
made_from pass zero s n = record { state = s; passes = n }
made_from pass (suc more) s n = made_if (moved_of (pass s)) (made_from pass more (pass s) (suc n)) (record { state = pass s; passes = suc n })

-- '1 + 2 × points + 2 × (thresholds + 1) × (points × variables + mutexes × variables + points)'
abbrev pub pass_bound : List ℤ → List ℤ → ℕ
pass_bound t ts =
    1 + 2 * (sizes_of t).points
    + 2 * (length ts + 1) * ((sizes_of t).points * (sizes_of t).variables + (sizes_of t).mutexes * (sizes_of t).variables + (sizes_of t).points)

unfoldable pub made_of : List ℤ → List ℤ → (ℕ → ℕ) → Made
made_of t ts h = made_from (pass_of t ts h) (pass_bound t ts) (start_of t) 0
