-- Widening: 'a new target or entry takes the interval as it is; elsewhere an end that must move goes to the nearest threshold covering it, or to
-- MIN or MAX' (document 02, request 4).
-- Assumes nothing.
use Rattle.std.specs.Prelude.{ℕ, zero, suc, Bool, true, false, cond, ◌&&◌, List, ℤ, length, get_or, set, None, Option, Some}
use Rattle.std.specs.Int.Signed.{le_z}
use Rattle.words.specs.Words.{word_of}
use Rattle.words.specs.First.{all_below}
use Rattle.words.specs.Tabulate.{tabulate}
use Rattle.interval.specs.Interval.{least, greatest}
use Rattle.analysis.specs.declared.Row.{Row}
use Rattle.analysis.specs.Rows.{row_of}
use Rattle.std.specs.Int.{int_min, int_max}

-- ---- ends
-- the greatest of MIN and the first n thresholds that isn't above z
unfoldable pub floor_of : List ℤ → ℕ → ℤ → ℤ
floor_of ts zero z = least
floor_of ts (suc n) z = cond (le_z (word_of ts n) z) (int_max (floor_of ts n z) (word_of ts n)) (floor_of ts n z)

-- the least of MAX and those that isn't below z
unfoldable pub ceil_of : List ℤ → ℕ → ℤ → ℤ
ceil_of ts zero z = greatest
ceil_of ts (suc n) z = cond (le_z z (word_of ts n)) (int_min (ceil_of ts n z) (word_of ts n)) (ceil_of ts n z)

-- 'an end that must move goes to the nearest threshold covering it'
unfoldable pub low_to : List ℤ → ℤ → ℤ → ℤ
low_to ts old new = cond (le_z old new) old (floor_of ts (length ts) new)

unfoldable pub high_to : List ℤ → ℤ → ℤ → ℤ
high_to ts old new = cond (le_z new old) old (ceil_of ts (length ts) new)

-- ---- rows of n intervals
-- no end of r must move to hold those of s
unfoldable pub covers_of : ℕ → Row → Row → Bool
covers_of n r s = all_below (λ v. le_z (word_of r.lows v) (word_of s.lows v) && le_z (word_of s.highs v) (word_of r.highs v)) n

-- the n intervals of a row, and r widened by s
unfoldable pub trimmed_of : ℕ → Row → Row
trimmed_of n r = row_of (tabulate (λ v. word_of r.lows v) n) (tabulate (λ v. word_of r.highs v) n)

unfoldable pub widened_of : ℕ → List ℤ → Row → Row → Row
widened_of n ts r s =
    row_of (tabulate (λ v. low_to ts (word_of r.lows v) (word_of s.lows v)) n) (tabulate (λ v. high_to ts (word_of r.highs v) (word_of s.highs v)) n)

-- ---- places: none yet, or a row, and whether anything changed
pub record Places : Type 0 where
  pub at : List (Option Row)
  pub moved : Bool

abbrev pub place_in : Places → ℕ → Option Row
place_in a k = get_or a.at k None

abbrev pub store_of : Places → ℕ → Row → Places
store_of a k r = record { at = set a.at k (Some r); moved = true }

-- s taken in at the place k, where r is: true if no end must move
unfoldable pub take_if : Bool → ℕ → List ℤ → Places → ℕ → Row → Row → Places
take_if true n ts a k r s = a
take_if false n ts a k r s = store_of a k (widened_of n ts r s)

unfoldable pub take_by : Option Row → ℕ → List ℤ → Places → ℕ → Row → Places
take_by None n ts a k s = store_of a k (trimmed_of n s)
take_by (Some r) n ts a k s = take_if (covers_of n r s) n ts a k r s

unfoldable pub take_in : ℕ → List ℤ → Places → ℕ → Row → Places
take_in n ts a k s = take_by (place_in a k) n ts a k s
