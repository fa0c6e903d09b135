-- Rows: an interval for each variable, a word past the end being 0; what narrowing makes of a row; and when values lie within one (document 01,
-- 'Intervals').
-- Assumes nothing.
use Rattle.std.specs.Prelude.{Bool, true, false, List, [], ◌∷◌, ℕ, ℤ, pos, set, drop, None, Option, Some}
use Rattle.interval.specs.Interval.{from_to, Within}
use Rattle.interval.specs.Lattice.{◌⊑◌, meet_of}
use Rattle.interval.specs.declared.Interval.{Interval}
use Rattle.words.specs.Words.{word_of}
use Rattle.analysis.specs.declared.Ends.{Ends}
use Rattle.words.specs.Tabulate.{tabulate}
use Rattle.std.specs.Int.{int_min, int_max}
-- ---- rows
-- an interval for each variable: all low ends, and all high ends (the struct `Row` has sixteen of each)
pub use Rattle.analysis.specs.declared.Row.{Row}

-- the row of two lists of ends
abbrev pub row_of : List ℤ → List ℤ → Row
row_of lows highs = record { lows = lows; highs = highs }

-- and of those that are lent to be read where they lie
abbrev pub seen : Ends → Row
seen e = row_of e.lows.now e.highs.now

-- the interval of the variable v
abbrev pub range_of : Row → ℕ → Option Interval
range_of r v = from_to (word_of r.lows v) (word_of r.highs v)

-- the same words in sixteen slots: the row on which a point's formulas are read
unfoldable pub slots_of : List ℤ → List ℤ
slots_of ws = tabulate (λ i. word_of ws i) 16

abbrev pub own_of : Row → Row
own_of r = row_of (slots_of r.lows) (slots_of r.highs)

-- ---- what narrowing makes of a row: a row, or none
-- as the code gives it back: whether there is one, and the row
unfoldable pub maybe_by : Bool → Row → Option Row
maybe_by true r = Some r
maybe_by false r = None

unfoldable pub row_if : Bool → Option Row → Option Row
row_if true s = s
row_if false s = None

unfoldable pub then_row : Option Row → (Row → Option Row) → Option Row
then_row None f = None
then_row (Some r) f = f r

-- the row r with the interval s of v; 'an empty interval gives none'
unfoldable pub put_of : Row → ℕ → Option Interval → Option Row
put_of r v None = None
put_of r v (Some e) = Some (row_of (set r.lows v e.low) (set r.highs v e.high))

-- the row r, where v is known to lie in s
unfoldable pub meet_at_of : Row → ℕ → Option Interval → Option Row
meet_at_of r v s = put_of r v (meet_of (range_of r v) s)

-- f of both words at each place
unfoldable pub each_rest : (ℤ → ℤ → ℤ) → List ℤ → List ℤ
each_rest f [] = []
each_rest f (y ∷ m) = f (pos 0) y ∷ each_rest f m

unfoldable pub each : (ℤ → ℤ → ℤ) → List ℤ → List ℤ → List ℤ
each f [] m = each_rest f m
each f (x ∷ l) m = f x (word_of m 0) ∷ each f l (drop 1 m)

-- 'either joins the two, none adding nothing'
unfoldable pub join_rows_of : Option Row → Option Row → Option Row
join_rows_of None s = s
join_rows_of (Some r) None = Some r
join_rows_of (Some r) (Some s) = Some (row_of (each int_min r.lows s.lows) (each int_max r.highs s.highs))

-- ---- values within a row, and within what narrowing made
pub record Inside (vs : List ℤ) (r : Row) : Type 0 where
  pub at : (v : ℕ) → Within (word_of r.lows v) (word_of r.highs v) (word_of vs v)

abbrev pub Kept : List ℤ → Option Row → Type 0
Kept vs None = ⊥
Kept vs (Some r) = Inside vs r

-- a row within a row, and what narrowing made within a row
pub record RowWithin (r s : Row) : Type 0 where
  pub at : (v : ℕ) → range_of r v ⊑ range_of s v

abbrev pub MaybeWithin : Option Row → Row → Type 0
MaybeWithin None s = Unit {0}
MaybeWithin (Some r) s = RowWithin r s
