-- The layout of a proposal w for the table t (document 01, 'Proposal').
-- Assumes nothing.
use Rattle.std.specs.Prelude.{ℕ, ◌+◌, ◌*◌, Bool, not, List, eqb, ℤ}
use Rattle.words.specs.Words.{word_of, number_of, number_at, part_of}
use Rattle.table.specs.Layout.{sizes_of}
use Rattle.analysis.specs.declared.Row.{Row}
use Rattle.analysis.specs.Rows.{row_of}

-- ---- sizes
unfoldable pub entries_of : List ℤ → ℕ
entries_of w = number_at w 3

-- how many rows there are: of points, then of mutexes
abbrev pub rows_of : List ℤ → ℕ
rows_of t = (sizes_of t).points + (sizes_of t).mutexes

-- how many intervals: those of the rows, and one for each entry
unfoldable pub intervals_of : List ℤ → List ℤ → ℕ
intervals_of t w = rows_of t * (sizes_of t).variables + entries_of w

-- ---- where the parts begin
unfoldable pub heads_from : List ℤ → ℕ
heads_from t = 4 + (sizes_of t).points

unfoldable pub lows_from : List ℤ → List ℤ → ℕ
lows_from t w = heads_from t + 3 * entries_of w

unfoldable pub proposal_length : List ℤ → List ℤ → ℕ
proposal_length t w = lows_from t w + 2 * intervals_of t w

-- ---- held words: '-1 never reached, else the sum of 2^m over the mutexes m held'
unfoldable pub held_word_of : List ℤ → ℕ → ℤ
held_word_of w p = word_of w (4 + p)

-- a number below 0 is 4294967295, which is no held set
unfoldable pub held_of : List ℤ → ℕ → ℕ
held_of w p = number_of (held_word_of w p)

abbrev pub reached_of : List ℤ → ℕ → Bool
reached_of w p = not (eqb (held_of w p) 4294967295)

-- ---- entries: 'task, held set, variable', and an interval
unfoldable pub heads_of : List ℤ → List ℤ → List ℤ
heads_of t w = part_of w (heads_from t) (3 * entries_of w)

unfoldable pub head_of : List ℤ → List ℤ → ℕ → ℕ → ℕ
head_of t w i k = number_at (heads_of t w) (3 * i + k)

-- ---- 'two parallel arrays, all low ends and all high ends: point rows, mutex rest rows, one for each entry'
unfoldable pub lows_of : List ℤ → List ℤ → List ℤ
lows_of t w = part_of w (lows_from t w) (intervals_of t w)

unfoldable pub highs_of : List ℤ → List ℤ → List ℤ
highs_of t w = part_of w (lows_from t w + intervals_of t w) (intervals_of t w)

-- row k: two parts
unfoldable pub row_at : List ℤ → List ℤ → ℕ → Row
row_at t w k = row_of (part_of (lows_of t w) (k * (sizes_of t).variables) (sizes_of t).variables) (part_of (highs_of t w) (k * (sizes_of t).variables) (sizes_of t).variables)

-- the rest row of mutex m
abbrev pub rest_at : List ℤ → List ℤ → ℕ → Row
rest_at t w m = row_at t w ((sizes_of t).points + m)

-- the intervals of the entries, behind those of the rows
unfoldable pub entries_at : List ℤ → List ℤ → Row
entries_at t w =
    row_of (part_of (lows_of t w) (rows_of t * (sizes_of t).variables) (entries_of w)) (part_of (highs_of t w) (rows_of t * (sizes_of t).variables) (entries_of w))

unfoldable pub entry_low : List ℤ → List ℤ → ℕ → ℤ
entry_low t w i = word_of (entries_at t w).lows i

unfoldable pub entry_high : List ℤ → List ℤ → ℕ → ℤ
entry_high t w i = word_of (entries_at t w).highs i
