-- Worked examples of trees on a row, on the words of their nodes, in one table proved by computation: a quotient of document 01, a ring position by
-- document 02's request 1, choices by its request 2, and what is read by its request 3. The starred trees of document 01 stand in the table of `checker/specs/Examples.antt`.
-- Assumes nothing.
use Rattle.std.specs.Prelude.{ℕ, ◌≡◌, refl, Bool, true, false, List, [], ◌∷◌, map, ℤ, pos, negsuc, Option}
use Rattle.interval.specs.Integer.{min4_z, max4_z, eq_z}
use Rattle.interval.specs.Interval.{least, greatest, on_ends, span}
use Rattle.interval.specs.Lattice.{meet_of, join_of}
use Rattle.interval.specs.Arithmetic.{hull_of, below_of, above_of, either_part_of, largest_of, remainder_low_of, remainder_high_of, remainders_of, uncut_of, computed_of, negate_of, operate_of}
use Rattle.interval.specs.Compare.{both_of, decide_of, compare_of}
use Rattle.interval.specs.Narrow.{low_past_of, high_past_of, without_of, kept_of, cuts_at, cuts_for_of, cuts_of}
use Rattle.interval.specs.declared.Interval.{Interval}
use Rattle.words.specs.Words.{number_of}
use Rattle.table.specs.Layout.{four_by, four_of}
use Rattle.table.specs.Decode.{kept, shape_by, shape_from}
use Rattle.table.specs.Tree.{arith_by, cond_by, arith_f, arith_at, cond_at}
use Rattle.analysis.specs.declared.Alarm.{Alarm}
use Rattle.analysis.specs.Rows.{Row, row_of, row_if, then_row, put_of, meet_at_of, each_rest, each, join_rows_of}
use Rattle.analysis.specs.Alarms.{alarm_of, alarm_if, told_of}
use Rattle.analysis.specs.Reads.{reads}
use Rattle.analysis.specs.Analysis.{range_on, alarms_on, carry_of, carry_both_of, value_of, alarms_of}

-- what a tree gives on a row: its interval and alarms; or whether it reads each of the first four variables
pub data Answer : Type 0 where
  values : Option Interval → List Alarm → Answer
  readers : List Bool → Answer

pub record Example : Type 0 where
  pub got : Answer
  pub said : Answer

abbrev example : Answer → Answer → Example
example g s = record { got = g; said = s }

-- one variable
abbrev pub row : ℤ → ℤ → Row
row lo hi = row_of (lo ∷ []) (hi ∷ [])

-- v < v
abbrev pub less : List ℤ
less =
    pos 2 ∷ pos 0 ∷ pos 0 ∷ pos 0
    ∷ pos 2 ∷ pos 0 ∷ pos 0 ∷ pos 0
    ∷ pos 16 ∷ pos 0 ∷ pos 1 ∷ pos 0
    ∷ []

-- 10 / v
abbrev ratio : List ℤ
ratio =
    pos 0 ∷ pos 10 ∷ pos 0 ∷ pos 0
    ∷ pos 2 ∷ pos 0 ∷ pos 0 ∷ pos 0
    ∷ pos 7 ∷ pos 0 ∷ pos 1 ∷ pos 0
    ∷ []

-- v = 0 ? 0 : 10 / v
abbrev pub guarded : List ℤ
guarded =
    pos 2 ∷ pos 0 ∷ pos 0 ∷ pos 0
    ∷ pos 0 ∷ pos 0 ∷ pos 0 ∷ pos 0
    ∷ pos 18 ∷ pos 0 ∷ pos 1 ∷ pos 0
    ∷ pos 0 ∷ pos 0 ∷ pos 0 ∷ pos 0
    ∷ pos 0 ∷ pos 10 ∷ pos 0 ∷ pos 0
    ∷ pos 2 ∷ pos 0 ∷ pos 0 ∷ pos 0
    ∷ pos 7 ∷ pos 4 ∷ pos 5 ∷ pos 0
    ∷ pos 8 ∷ pos 2 ∷ pos 3 ∷ pos 6
    ∷ []

-- v != 0 ? 10 / v : 0
abbrev apart : List ℤ
apart =
    pos 2 ∷ pos 0 ∷ pos 0 ∷ pos 0
    ∷ pos 0 ∷ pos 0 ∷ pos 0 ∷ pos 0
    ∷ pos 19 ∷ pos 0 ∷ pos 1 ∷ pos 0
    ∷ pos 0 ∷ pos 10 ∷ pos 0 ∷ pos 0
    ∷ pos 2 ∷ pos 0 ∷ pos 0 ∷ pos 0
    ∷ pos 7 ∷ pos 3 ∷ pos 4 ∷ pos 0
    ∷ pos 0 ∷ pos 0 ∷ pos 0 ∷ pos 0
    ∷ pos 8 ∷ pos 2 ∷ pos 5 ∷ pos 6
    ∷ []

-- v < 3 and 5 < v ? 10 / v : 1
abbrev never : List ℤ
never =
    pos 2 ∷ pos 0 ∷ pos 0 ∷ pos 0
    ∷ pos 0 ∷ pos 3 ∷ pos 0 ∷ pos 0
    ∷ pos 16 ∷ pos 0 ∷ pos 1 ∷ pos 0
    ∷ pos 0 ∷ pos 5 ∷ pos 0 ∷ pos 0
    ∷ pos 2 ∷ pos 0 ∷ pos 0 ∷ pos 0
    ∷ pos 16 ∷ pos 3 ∷ pos 4 ∷ pos 0
    ∷ pos 20 ∷ pos 2 ∷ pos 5 ∷ pos 0
    ∷ pos 0 ∷ pos 10 ∷ pos 0 ∷ pos 0
    ∷ pos 2 ∷ pos 0 ∷ pos 0 ∷ pos 0
    ∷ pos 7 ∷ pos 7 ∷ pos 8 ∷ pos 0
    ∷ pos 0 ∷ pos 1 ∷ pos 0 ∷ pos 0
    ∷ pos 8 ∷ pos 6 ∷ pos 9 ∷ pos 10
    ∷ []

-- v != 0 and 1 < 10 / v ? 1 : 0
abbrev tested : List ℤ
tested =
    pos 2 ∷ pos 0 ∷ pos 0 ∷ pos 0
    ∷ pos 0 ∷ pos 0 ∷ pos 0 ∷ pos 0
    ∷ pos 19 ∷ pos 0 ∷ pos 1 ∷ pos 0
    ∷ pos 0 ∷ pos 1 ∷ pos 0 ∷ pos 0
    ∷ pos 0 ∷ pos 10 ∷ pos 0 ∷ pos 0
    ∷ pos 2 ∷ pos 0 ∷ pos 0 ∷ pos 0
    ∷ pos 7 ∷ pos 4 ∷ pos 5 ∷ pos 0
    ∷ pos 16 ∷ pos 3 ∷ pos 6 ∷ pos 0
    ∷ pos 20 ∷ pos 2 ∷ pos 7 ∷ pos 0
    ∷ pos 0 ∷ pos 1 ∷ pos 0 ∷ pos 0
    ∷ pos 0 ∷ pos 0 ∷ pos 0 ∷ pos 0
    ∷ pos 8 ∷ pos 8 ∷ pos 9 ∷ pos 10
    ∷ []

-- a position on a ring of 12: v % 12, and the same by quotient and product, v - v / 12 * 12
abbrev ring : List ℤ
ring =
    pos 2 ∷ pos 0 ∷ pos 0 ∷ pos 0
    ∷ pos 0 ∷ pos 12 ∷ pos 0 ∷ pos 0
    ∷ pos 9 ∷ pos 0 ∷ pos 1 ∷ pos 0
    ∷ []

abbrev ring_by_quotient : List ℤ
ring_by_quotient =
    pos 2 ∷ pos 0 ∷ pos 0 ∷ pos 0
    ∷ pos 2 ∷ pos 0 ∷ pos 0 ∷ pos 0
    ∷ pos 0 ∷ pos 12 ∷ pos 0 ∷ pos 0
    ∷ pos 7 ∷ pos 1 ∷ pos 2 ∷ pos 0
    ∷ pos 0 ∷ pos 12 ∷ pos 0 ∷ pos 0
    ∷ pos 6 ∷ pos 3 ∷ pos 4 ∷ pos 0
    ∷ pos 5 ∷ pos 0 ∷ pos 5 ∷ pos 0
    ∷ []

-- not v < 1 ? -w : (5 < u ? 3 : 4), with v, w and u the variables 0, 1 and 2
abbrev scattered : List ℤ
scattered =
    pos 2 ∷ pos 0 ∷ pos 0 ∷ pos 0
    ∷ pos 0 ∷ pos 1 ∷ pos 0 ∷ pos 0
    ∷ pos 16 ∷ pos 0 ∷ pos 1 ∷ pos 0
    ∷ pos 22 ∷ pos 2 ∷ pos 0 ∷ pos 0
    ∷ pos 2 ∷ pos 1 ∷ pos 0 ∷ pos 0
    ∷ pos 3 ∷ pos 4 ∷ pos 0 ∷ pos 0
    ∷ pos 2 ∷ pos 2 ∷ pos 0 ∷ pos 0
    ∷ pos 0 ∷ pos 5 ∷ pos 0 ∷ pos 0
    ∷ pos 16 ∷ pos 7 ∷ pos 6 ∷ pos 0
    ∷ pos 0 ∷ pos 3 ∷ pos 0 ∷ pos 0
    ∷ pos 0 ∷ pos 4 ∷ pos 0 ∷ pos 0
    ∷ pos 8 ∷ pos 8 ∷ pos 9 ∷ pos 10
    ∷ pos 8 ∷ pos 3 ∷ pos 5 ∷ pos 11
    ∷ []

-- 2 < w ? w : 3
abbrev second : List ℤ
second =
    pos 0 ∷ pos 2 ∷ pos 0 ∷ pos 0
    ∷ pos 2 ∷ pos 1 ∷ pos 0 ∷ pos 0
    ∷ pos 16 ∷ pos 0 ∷ pos 1 ∷ pos 0
    ∷ pos 2 ∷ pos 1 ∷ pos 0 ∷ pos 0
    ∷ pos 0 ∷ pos 3 ∷ pos 0 ∷ pos 0
    ∷ pos 8 ∷ pos 2 ∷ pos 3 ∷ pos 4
    ∷ []

abbrev reading : List ℤ → ℕ → Answer
reading ns n = let t = arith_at ns n in readers (reads t 0 ∷ reads t 1 ∷ reads t 2 ∷ reads t 3 ∷ [])

abbrev valued : List ℤ → ℕ → Row → Answer
valued ns n r = values (value_of (arith_at ns n) r) (alarms_of (arith_at ns n) r)

unfoldable pub table : List Example
table =
    -- 10 divided by a variable within 0..5: 2..10, zero possible
    example (valued ratio 2 (row (pos 0) (pos 5))) (values (span (pos 2) (pos 10)) (alarm_of 2 2 ∷ []))
    -- a choice that tests its own divisor the other way round lists nothing either
    ∷ example (valued apart 7 (row (pos 0) (pos 5))) (values (span (pos 0) (pos 10)) [])
    -- a branch that the decision allows, and that no row is left for, is not taken
    ∷ example (valued never 11 (row (pos 0) (pos 9))) (values (span (pos 1) (pos 1)) [])
    -- a condition's own alarms are those of its decision on the row that came in
    ∷ example (valued tested 11 (row (pos 0) (pos 5))) (values (span (pos 0) (pos 1)) (alarm_of 6 2 ∷ []))
    -- 'a remainder written by quotient and product alarms for no cause', and one by node 9 doesn't: any offset on a ring of 12
    ∷ example (valued ring_by_quotient 6 (row least greatest)) (values (span least greatest) (alarm_of 6 1 ∷ []))
    ∷ example (valued ring 2 (row least greatest)) (values (span (negsuc 10) (pos 11)) [])
    -- a variable is read in a condition, under its opposite, in either branch and in a choice below
    ∷ example (reading scattered 12) (readers (true ∷ true ∷ true ∷ false ∷ []))
    ∷ example (reading guarded 7) (readers (true ∷ false ∷ false ∷ false ∷ []))
    -- w is 0..5 in both rows, but the second lacks w's low end, so that nothing can be cut there: rows agree by their intervals only if they are paired
    ∷ example (valued second 5 (row_of (pos 0 ∷ pos 0 ∷ []) (pos 0 ∷ pos 5 ∷ []))) (values (span (pos 3) (pos 5)) [])
    ∷ example (valued second 5 (row_of (pos 0 ∷ []) (pos 0 ∷ pos 5 ∷ []))) (values (span (pos 0) (pos 5)) [])
    ∷ []

abbrev pub Starred : Type 0
Starred = map (λ (e : Example). e.got) table ≡ map (λ (e : Example). e.said) table

pub starred : Starred
unfolding table min4_z max4_z eq_z on_ends meet_of join_of hull_of below_of above_of either_part_of largest_of remainder_low_of remainder_high_of remainders_of uncut_of computed_of negate_of operate_of both_of decide_of compare_of low_past_of high_past_of without_of kept_of cuts_at cuts_for_of cuts_of number_of four_by four_of kept shape_by shape_from arith_by cond_by arith_f arith_at cond_at row_if then_row put_of meet_at_of each_rest each join_rows_of alarm_if told_of range_on alarms_on carry_of carry_both_of value_of reads
starred = refl
