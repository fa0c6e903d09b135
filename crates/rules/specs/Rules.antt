-- Refusals 7 to 16, each a test at a place (document 01, 'Refusals of a check').
-- Assumes nothing.
use Rattle.std.specs.Prelude.{ℕ, zero, suc, ◌-◌, ◌%◌, ◌^◌, Bool, true, false, not, cond, ◌&&◌, ◌||◌, List, [], ◌∷◌, eqb, leb, ltb, ℤ, pos, negsuc, None, Option, Some}
use Rattle.std.specs.Int.Signed.{le_z}
use Rattle.words.specs.Words.{word_of, number_at}
use Rattle.words.specs.First.{all_below, some_below}
use Rattle.interval.specs.Interval.{from_to, span}
use Rattle.interval.specs.Lattice.{within_of}
use Rattle.interval.specs.declared.Interval.{Interval}
use Rattle.table.specs.Layout.{sizes_of, starts_of, points_of, first_of, task_of}
use Rattle.table.specs.Decode.{point_of}
use Rattle.table.specs.declared.Point.{Point}
use Rattle.table.specs.declared.Point.TheVariants.{End, Assign, Test, Lock, Unlock}
use Rattle.analysis.specs.declared.Row.{Row}
use Rattle.analysis.specs.Rows.{range_of}
use Rattle.rules.specs.Held.{has_of, disjoint_of}
use Rattle.rules.specs.Proposal.{entries_of, heads_from, lows_from, held_word_of, held_of, reached_of, head_of, lows_of, highs_of, row_at, rest_at, entry_low, entry_high}
use Rattle.rules.specs.Outcomes.{Outcome, row_within_of, written_of, outcomes_of}

-- the word is -1
abbrev pub minus_one : ℤ → Bool
minus_one (pos n) = false
minus_one (negsuc zero) = true
minus_one (negsuc (suc n)) = false

-- where a holds, b does
abbrev pub implies : Bool → Bool → Bool
implies true b = b
implies false b = true

-- the test holds of each outcome
unfoldable pub all_outcomes : (Outcome → Bool) → List Outcome → Bool
all_outcomes f [] = true
all_outcomes f (o ∷ l) = f o && all_outcomes f l

-- ---- 8 match: 'a size unlike the table's, or entries outside 0..512'
unfoldable pub rule8 : List ℤ → List ℤ → ℕ → Bool
rule8 t w zero = eqb (number_at w 0) (sizes_of t).points
rule8 t w (suc zero) = eqb (number_at w 1) (sizes_of t).variables
rule8 t w (suc (suc zero)) = eqb (number_at w 2) (sizes_of t).mutexes
rule8 t w (suc (suc (suc k))) = leb (entries_of w) 512

-- ---- 9 range: 'held word or entry head out of range; a low end above its high end', at a word
-- a held set names mutexes of the table
abbrev pub is_set : List ℤ → ℕ → Bool
is_set t s = ltb s (2 ^ (sizes_of t).mutexes)

-- '-1 never reached, else the sum of 2^m'
unfoldable pub held_in_range : List ℤ → List ℤ → ℕ → Bool
held_in_range t w p = minus_one (held_word_of w p) || is_set t (held_of w p)

-- by the field: task, held set, variable
unfoldable pub head_in_range : List ℤ → ℕ → ℕ → Bool
head_in_range t zero n = ltb n (sizes_of t).tasks
head_in_range t (suc zero) n = is_set t n
head_in_range t (suc (suc k)) n = ltb n (sizes_of t).variables

unfoldable pub rule9 : List ℤ → List ℤ → ℕ → Bool
rule9 t w i =
    cond (ltb i 4) true
    (cond (ltb i (heads_from t)) (held_in_range t w (i - 4))
    (cond (ltb i (lows_from t w)) (head_in_range t ((i - heads_from t) % 3) (number_at w i))
    (le_z (word_of (lows_of t w) (i - lows_from t w)) (word_of (highs_of t w) (i - lows_from t w)))))

-- ---- 10 order: 'entry head not above the one before, by task, set, variable'
abbrev pub above : ℕ → ℕ → Bool → Bool
above a b next = ltb a b || (eqb a b && next)

-- the head of entry i is before (task u, set s, variable v)
unfoldable pub before_of : List ℤ → List ℤ → ℕ → ℕ → ℕ → ℕ → Bool
before_of t w i u s v = above (head_of t w i 0) u (above (head_of t w i 1) s (ltb (head_of t w i 2) v))

unfoldable pub rule10 : List ℤ → List ℤ → ℕ → Bool
rule10 t w zero = true
rule10 t w (suc i) = before_of t w i (head_of t w (suc i) 0) (head_of t w (suc i) 1) (head_of t w (suc i) 2)

-- ---- 11 start: 'a first point with held not 0, or starting values outside its row; else outside a rest row', points first, then mutexes
unfoldable pub holds_start : List ℤ → Row → Bool
holds_start t r = all_below (λ v. within_of (span (word_of (starts_of t) v) (word_of (starts_of t) v)) (range_of r v)) (sizes_of t).variables

abbrev pub is_first : List ℤ → ℕ → Bool
is_first t p = some_below (λ u. eqb (first_of t u) p) (sizes_of t).tasks

unfoldable pub start_point : List ℤ → List ℤ → ℕ → Bool
start_point t w p = implies (is_first t p) (eqb (held_of w p) 0 && holds_start t (row_at t w p))

unfoldable pub rule11 : List ℤ → List ℤ → ℕ → Bool
rule11 t w place = cond (ltb place (sizes_of t).points) (start_point t w place) (holds_start t (row_at t w place))

-- ---- 12 locks, 13 flow: over the outcomes of a reached point
-- how the held set of a target relates to the set that an outcome brings: it is that set
abbrev pub held_fits : ℕ → ℕ → Bool
held_fits brought target = eqb target brought

-- 'an outcome whose target has another held word'; 'an outcome not within its target's row'
unfoldable pub locks_fit : List ℤ → List Outcome → Bool
locks_fit w l = all_outcomes (λ o. held_fits o.held (held_of w o.target)) l

unfoldable pub rows_fit : List ℤ → List ℤ → List Outcome → Bool
rows_fit t w l = all_outcomes (λ o. row_within_of (sizes_of t).variables o.row (row_at t w o.target)) l

unfoldable pub rule12 : List ℤ → List ℤ → ℕ → Bool
rule12 t w p = implies (reached_of w p) (locks_fit w (outcomes_of t w p))

unfoldable pub rule13 : List ℤ → List ℤ → ℕ → Bool
rule13 t w p = implies (reached_of w p) (rows_fit t w (outcomes_of t w p))

-- ---- 14 write: 'written interval without an entry for (task, held set, variable) holding it'
unfoldable pub files : List ℤ → List ℤ → ℕ → ℕ → ℕ → Option Interval → ℕ → Bool
files t w u s v x i =
    eqb (head_of t w i 0) u && (eqb (head_of t w i 1) s && (eqb (head_of t w i 2) v && within_of x (from_to (entry_low t w i) (entry_high t w i))))

unfoldable pub filed : List ℤ → List ℤ → ℕ → ℕ → ℕ → Option Interval → Bool
filed t w u s v None = true
filed t w u s v (Some e) = some_below (files t w u s v (span e.low e.high)) (entries_of w)

-- by what stands at the point p, its held set s and its row r
unfoldable pub writes : List ℤ → List ℤ → Point → ℕ → ℕ → Row → Bool
writes t w End p s r = true
writes t w (Assign v e q) p s r = filed t w (task_of t p) s v (written_of t e r)
writes t w (Test c y n) p s r = true
writes t w (Lock m q) p s r = true
writes t w (Unlock m q) p s r = true

unfoldable pub rule14 : List ℤ → List ℤ → ℕ → Bool
rule14 t w p = implies (reached_of w p) (writes t w (point_of (points_of t) p) p (held_of w p) (row_at t w p))

-- ---- 15 disturb: 'a reached point whose row lacks an entry of another task with a disjoint held set'
-- the row's interval holds the entry's
unfoldable pub takes : List ℤ → List ℤ → Row → ℕ → Bool
takes t w r i = within_of (from_to (entry_low t w i) (entry_high t w i)) (range_of r (head_of t w i 2))

-- entry i is of another task than u, with a held set disjoint from s
unfoldable pub disturbs : List ℤ → List ℤ → ℕ → ℕ → ℕ → Bool
disturbs t w u s i = not (eqb (head_of t w i 0) u) && disjoint_of (head_of t w i 1) s

unfoldable pub undisturbed : List ℤ → List ℤ → ℕ → ℕ → Bool
undisturbed t w p i = implies (disturbs t w (task_of t p) (held_of w p) i) (takes t w (row_at t w p) i)

unfoldable pub rule15 : List ℤ → List ℤ → ℕ → Bool
rule15 t w p = implies (reached_of w p) (all_below (undisturbed t w p) (entries_of w))

-- ---- 16 rest: 'an unlock outcome outside the mutex's rest row; else an entry without mutex m outside m's rest row', points first, then entries
-- by what stands at the point and its outcomes
unfoldable pub rests : List ℤ → List ℤ → Point → List Outcome → Bool
rests t w End l = true
rests t w (Assign v e q) l = true
rests t w (Test c y n) l = true
rests t w (Lock m q) l = true
rests t w (Unlock m q) l = all_outcomes (λ o. row_within_of (sizes_of t).variables o.row (rest_at t w m)) l

unfoldable pub rest_point : List ℤ → List ℤ → ℕ → Bool
rest_point t w p = implies (reached_of w p) (rests t w (point_of (points_of t) p) (outcomes_of t w p))

unfoldable pub rest_entry : List ℤ → List ℤ → ℕ → Bool
rest_entry t w i = all_below (λ m. implies (not (has_of (head_of t w i 1) m)) (takes t w (rest_at t w m) i)) (sizes_of t).mutexes

unfoldable pub rule16 : List ℤ → List ℤ → ℕ → Bool
rule16 t w place = cond (ltb place (sizes_of t).points) (rest_point t w place) (rest_entry t w (place - (sizes_of t).points))
