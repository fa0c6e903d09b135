-- Refusals 1 to 16 in order, each with its smallest place, over a range of points and entries (document 01, 'Refusals of a check').
-- Assumes nothing.
use Rattle.std.specs.Prelude.{ℕ, ◌+◌, Bool, ◌||◌, List, eqb, leb, ltb, ℤ, length, Option, Ok, Err}
use Rattle.words.specs.First.{unless, first_bad, places, first_bad_in}
use Rattle.words.specs.Stages.{refuse, and_then, Stage, passed, broken}
use Rattle.table.specs.Layout.{sizes_of}
use Rattle.table.specs.Validate.{validate_of}
use Rattle.analysis.specs.Alarms.{marked_of}
use Rattle.words.specs.declared.search.Places.{Places}
use Rattle.rules.specs.declared.Scope.{Scope}
use Rattle.rules.specs.Proposal.{entries_of, intervals_of, lows_from, proposal_length}
use Rattle.rules.specs.Rules.{rule8, rule9, rule10, rule11, rule12, rule13, rule14, rule15, rule16}
use Rattle.rules.specs.Alarms.{alarms_in}
use Rattle.words.specs.declared.refusal.Rule.TheVariants.{Reach, Match, Range, Order, Start, Locks, Flow, Write, Disturb, Rest}

-- ---- the places that rules 11 to 16 are about
-- the whole table: every point, every rest row ('points + mutex'), every entry ('points + entry')
abbrev pub whole_of : List ℤ → List ℤ → Scope
whole_of t w =
    record {
      points = places 0 (sizes_of t).points;
      rests = places (sizes_of t).points ((sizes_of t).points + (sizes_of t).mutexes);
      entries = places (sizes_of t).points ((sizes_of t).points + entries_of w);
    }

-- ---- the stages
-- 7 reach, 8 match: 'short 7, 8, other 7'
unfoldable pub layout_stage : List ℤ → List ℤ → Stage
layout_stage t w =
    refuse Reach (unless (leb 4 (length w)) (length w))
    (refuse Match (first_bad (rule8 t w) 4)
    (refuse Reach (unless (eqb (length w) (proposal_length t w)) (length w))
    passed))

-- 9 range, 10 order
unfoldable pub words_stage : List ℤ → List ℤ → Stage
words_stage t w =
    refuse Range (first_bad (rule9 t w) (lows_from t w + intervals_of t w))
    (refuse Order (first_bad (rule10 t w) (entries_of w))
    passed)

-- 11 start: a first point, 'else' a rest row
unfoldable pub start_stage : List ℤ → List ℤ → Scope → Stage
start_stage t w s =
    refuse Start (first_bad_in (rule11 t w) s.points)
    (refuse Start (first_bad_in (rule11 t w) s.rests)
    passed)

-- 12 locks, 13 flow, 14 write
unfoldable pub outcome_stage : List ℤ → List ℤ → Scope → Stage
outcome_stage t w s =
    refuse Locks (first_bad_in (rule12 t w) s.points)
    (refuse Flow (first_bad_in (rule13 t w) s.points)
    (refuse Write (first_bad_in (rule14 t w) s.points)
    passed))

-- 15 disturb, 16 rest: an unlock, 'else' an entry
unfoldable pub shared_stage : List ℤ → List ℤ → Scope → Stage
shared_stage t w s =
    refuse Disturb (first_bad_in (rule15 t w) s.points)
    (refuse Rest (first_bad_in (rule16 t w) s.points)
    (refuse Rest (first_bad_in (rule16 t w) s.entries)
    passed))

-- 1 to 11: what comes before any expression is evaluated
unfoldable pub ready_of : List ℤ → List ℤ → Stage
ready_of t w = and_then (validate_of t) (and_then (layout_stage t w) (and_then (words_stage t w) (start_stage t w (whole_of t w))))

-- 1 to 16
unfoldable pub examined_of : List ℤ → List ℤ → Stage
examined_of t w = and_then (ready_of t w) (and_then (outcome_stage t w (whole_of t w)) (shared_stage t w (whole_of t w)))

-- ---- the marks of the alarms: made where 1 to 11 passed, in the walk over the points that rules 12 to 14 make
unfoldable pub marks_by : Stage → List ℕ → List ℕ → List ℕ
marks_by (Ok u) made marks = made
marks_by (Err e) made marks = marks

unfoldable pub marks_of : List ℤ → List ℤ → List ℕ → List ℕ
marks_of t w marks = marks_by (ready_of t w) (marked_of marks (alarms_in t w 0 (sizes_of t).points)) marks
