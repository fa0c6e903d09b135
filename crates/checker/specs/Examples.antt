-- The starred examples of document 01, all of them in one table proved by computation: whole checks, trees on a row, and single operations.
-- Assumes nothing.
use Rattle.std.specs.Prelude.{ℕ, ◌≡◌, refl, Bool, true, false, List, [], ◌∷◌, map, ℤ, pos, negsuc, None, Option, Some, Result, Ok}
use Rattle.interval.specs.Integer.{min4_z, max4_z, eq_z}
use Rattle.interval.specs.Interval.{least, greatest, on_ends, span}
use Rattle.interval.specs.Lattice.{within_of, meet_of, join_of}
use Rattle.interval.specs.Arithmetic.{hull_of, below_of, above_of, either_part_of, uncut_of, computed_of, negate_of, operate_of}
use Rattle.interval.specs.Compare.{decide_of, compare_of}
use Rattle.interval.specs.Narrow.{low_past_of, high_past_of, without_of, kept_of, cuts_at, cuts_for_of, cuts_of}
use Rattle.interval.specs.declared.Interval.{Interval}
use Rattle.interval.specs.declared.Computed.{Computed}
use Rattle.interval.specs.declared.Operation.TheVariants.{Product, Quotient}
use Rattle.words.specs.Words.{number_of}
use Rattle.words.specs.First.{unless, or_else, first_bad, all_below, some_below}
use Rattle.words.specs.Stages.{refuse, and_then, buffer_by, broken, Numbers, number_by, refused_as}
use Rattle.table.specs.Layout.{shares_of, starts_of, points_of, nodes_of, four_by, four_of, first_in, later_of, last_in, first_of, task_of}
use Rattle.table.specs.Decode.{kept, shape_by, shape_from, point_by, point_from}
use Rattle.table.specs.Tree.{arith_by, cond_by, arith_f, arith_at, cond_at}
use Rattle.table.specs.Formed.{node_fields_of, point_fields_of, fits_of}
use Rattle.table.specs.Uses.{ref_of, refs_below, count_of, uses_of}
use Rattle.table.specs.Validate.{sizes_stage, parts_stage}
use Rattle.analysis.specs.declared.Alarm.{Alarm}
use Rattle.words.specs.Tabulate.{tabulate}
use Rattle.analysis.specs.declared.Row.{Row}
use Rattle.analysis.specs.Rows.{slots_of, row_if, then_row, put_of, meet_at_of}
use Rattle.analysis.specs.Alarms.{alarm_of, alarm_if, told_of, lists}
use Rattle.analysis.specs.Analysis.{range_on, alarms_on, carry_of, carry_both_of, value_of, alarms_of, narrow_of}
use Rattle.analysis.specs.Examples.{row, less, guarded}
use Rattle.rules.specs.Proposal.{entries_of, intervals_of, heads_from, lows_from, proposal_length, held_word_of, held_of, heads_of, head_of, lows_of, highs_of, row_at, entries_at, entry_low, entry_high}
use Rattle.rules.specs.Outcomes.{row_within_of, assigned, written_of, outcome_if, outcomes_with, outcomes_by, outcomes_of}
use Rattle.rules.specs.Rules.{all_outcomes, rule8, held_in_range, head_in_range, rule9, before_of, rule10, holds_start, start_point, rule11, locks_fit, rows_fit, rule12, rule13, files, filed, writes, rule14, takes, disturbs, undisturbed, rule15, rests, rest_point, rest_entry, rule16}
use Rattle.rules.specs.Alarms.{alarms_by, alarms_if, alarms_at}
use Rattle.rules.specs.Examine.{layout_stage, words_stage, start_stage, outcome_stage, shared_stage, ready_of, examined_of}
use Rattle.words.specs.First.{first_bad_in}
use Rattle.checker.specs.AlarmList.{raised, pair_if, pairs_at, pairs_of, alarm_words}
use Rattle.checker.specs.Check.{room_stage, stages_of, verdict_by, verdict_numbers, check_of, buffer_of}
use Rattle.words.specs.declared.refusal.Refusal.{Refusal}
use Rattle.words.specs.declared.refusal.Rule.{Rule}
use Rattle.words.specs.declared.refusal.Rule.TheVariants.{Disturb, Range, Length}

-- what the document tells of a check: its verdict, also by numbers, or its buffer afterwards; of a tree on a row: its interval and alarms, or the row that it
-- leaves; and of a single operation
pub data Answer : Type 0 where
  verdict : Result ℕ Refusal → Numbers → Answer
  buffer : List ℤ → Answer
  value : Option Interval → List Alarm → Answer
  leaves : Option Row → Answer
  result : Computed → Answer

pub record Example : Type 0 where
  pub got : Answer
  pub said : Answer

abbrev example : Answer → Answer → Example
example g s = record { got = g; said = s }

-- ---- whole checks
abbrev verdict_of : Result ℕ Refusal → Answer
verdict_of r = verdict r (verdict_numbers r)

abbrev accepted : ℕ → Answer
accepted count = verdict (Ok count) (record { number = 0; place = 0; count = count })

abbrev refused : Rule → ℕ → ℕ → Answer
refused rule number place = verdict (broken rule place) (refused_as number place)

-- task 0 writes 5 to the variable, task 1 ends at once
abbrev bare : List ℤ
bare =
    pos 2 ∷ pos 1 ∷ pos 0 ∷ pos 3 ∷ pos 1
    ∷ pos 2 ∷ pos 1
    ∷ pos 0
    ∷ pos 1 ∷ pos 0 ∷ pos 0 ∷ pos 1
    ∷ pos 0 ∷ pos 0 ∷ pos 0 ∷ pos 0
    ∷ pos 0 ∷ pos 0 ∷ pos 0 ∷ pos 0
    ∷ pos 0 ∷ pos 5 ∷ pos 0 ∷ pos 0
    ∷ []

-- its proposal, with the third and the last high end
abbrev proposed : ℤ → ℤ → List ℤ
proposed third last =
    pos 3 ∷ pos 1 ∷ pos 0 ∷ pos 1
    ∷ pos 0 ∷ pos 0 ∷ pos 0
    ∷ pos 0 ∷ pos 0 ∷ pos 0
    ∷ pos 0 ∷ pos 5 ∷ pos 0 ∷ pos 5
    ∷ pos 0 ∷ pos 5 ∷ third ∷ last
    ∷ []

-- a second variable, to which point 2 writes 10 divided by variable 0, and a point 3 at which task 1 ends
abbrev dividing : List ℤ
dividing =
    pos 2 ∷ pos 2 ∷ pos 0 ∷ pos 4 ∷ pos 4
    ∷ pos 2 ∷ pos 2
    ∷ pos 0 ∷ pos 0
    ∷ pos 1 ∷ pos 0 ∷ pos 0 ∷ pos 1
    ∷ pos 0 ∷ pos 0 ∷ pos 0 ∷ pos 0
    ∷ pos 1 ∷ pos 1 ∷ pos 3 ∷ pos 3
    ∷ pos 0 ∷ pos 0 ∷ pos 0 ∷ pos 0
    ∷ pos 0 ∷ pos 5 ∷ pos 0 ∷ pos 0
    ∷ pos 0 ∷ pos 10 ∷ pos 0 ∷ pos 0
    ∷ pos 2 ∷ pos 0 ∷ pos 0 ∷ pos 0
    ∷ pos 7 ∷ pos 1 ∷ pos 2 ∷ pos 0
    ∷ []

-- its proposal: the second entry files 2..10, and the row of point 2 has variable 0 within 0..5
abbrev filing : List ℤ
filing =
    pos 4 ∷ pos 2 ∷ pos 0 ∷ pos 2
    ∷ pos 0 ∷ pos 0 ∷ pos 0 ∷ pos 0
    ∷ pos 0 ∷ pos 0 ∷ pos 0
    ∷ pos 1 ∷ pos 0 ∷ pos 1
    ∷ pos 0 ∷ pos 0 ∷ pos 5 ∷ pos 0 ∷ pos 0 ∷ pos 0 ∷ pos 0 ∷ pos 2 ∷ pos 5 ∷ pos 2
    ∷ pos 0 ∷ pos 10 ∷ pos 5 ∷ pos 10 ∷ pos 5 ∷ pos 0 ∷ pos 5 ∷ pos 10 ∷ pos 5 ∷ pos 10
    ∷ []

-- ---- a tree on a row: the node n of the words, and the row
abbrev valued : List ℤ → ℕ → Row → Answer
valued ns n r = value (value_of (arith_at ns n) r) (alarms_of (arith_at ns n) r)

-- ---- a single operation
abbrev gives : Option Interval → Bool → Bool → Computed
gives r o z = record { range = r; overflow = o; zero = z }

-- the checks of Bare and of the empty table have room for eight words
unfoldable pub table : List Example
table =
    -- Bare: accepted, no alarm
    example (verdict_of (check_of bare (proposed (pos 5) (pos 5)) 8)) (accepted 0)
    -- Bare with the third high 4: refused 15 disturb at 2
    ∷ example (verdict_of (check_of bare (proposed (pos 4) (pos 5)) 8)) (refused Disturb 15 2)
    -- Bare with the last high 4: 9 at 13
    ∷ example (verdict_of (check_of bare (proposed (pos 5) (pos 4)) 8)) (refused Range 9 13)
    -- the empty table: 1 at 0
    ∷ example (verdict_of (check_of [] [] 8)) (refused Length 1 0)
    -- point 2 divides 10 by variable 0 within 0..5 into a second variable: written 2..10, zero possible; so one alarm, node 3 and kind 2
    ∷ example (value (written_of dividing 3 (row_at dividing filing 2)) (alarms_at dividing filing 2)) (value (span (pos 2) (pos 10)) (alarm_of 3 2 ∷ []))
    ∷ example (verdict_of (check_of dividing filing 3)) (accepted 1)
    ∷ example (buffer (buffer_of dividing filing (pos 7 ∷ pos 8 ∷ pos 9 ∷ []))) (buffer (pos 3 ∷ pos 2 ∷ pos 9 ∷ []))
    -- v < v on 0..9 narrows to 1..8
    ∷ example (leaves (narrow_of (cond_at less 2) true (row (pos 0) (pos 9)))) (leaves (Some (row (pos 1) (pos 8))))
    -- v = 0 ? 0 : 10 / v on 0..5 lists nothing and gives 0..10
    ∷ example (valued guarded 7 (row (pos 0) (pos 5))) (value (span (pos 0) (pos 10)) [])
    -- -(MIN..0) is 0..MAX, overflow
    ∷ example (result (negate_of (span least (pos 0)))) (result (gives (span (pos 0) greatest) true false))
    -- 1..2 times MAX is MAX..MAX, overflow
    ∷ example (result (operate_of Product (span (pos 1) (pos 2)) (span greatest greatest))) (result (gives (span greatest greatest) true false))
    -- MIN / -1: none, overflow
    ∷ example (result (operate_of Quotient (span least least) (span (negsuc 0) (negsuc 0)))) (result (gives None true false))
    -- -7..7 / -2..3 is -7..7, zero
    ∷ example (result (operate_of Quotient (span (negsuc 6) (pos 7)) (span (negsuc 1) (pos 3)))) (result (gives (span (negsuc 6) (pos 7)) false true))
    ∷ []

abbrev pub Starred : Type 0
Starred = map (λ (e : Example). e.got) table ≡ map (λ (e : Example). e.said) table

pub starred : Starred
unfolding table min4_z max4_z eq_z on_ends within_of meet_of join_of hull_of below_of above_of either_part_of uncut_of computed_of negate_of operate_of
    decide_of compare_of low_past_of high_past_of without_of kept_of cuts_at cuts_for_of cuts_of
    number_of unless or_else first_bad all_below some_below refuse and_then
    shares_of starts_of points_of nodes_of four_by four_of first_in later_of last_in first_of task_of
    kept shape_by shape_from point_by point_from arith_by cond_by arith_f arith_at cond_at
    node_fields_of point_fields_of fits_of ref_of refs_below count_of uses_of sizes_stage parts_stage
    tabulate slots_of row_if then_row put_of meet_at_of alarm_if told_of lists range_on alarms_on carry_of carry_both_of value_of
    entries_of intervals_of heads_from lows_from proposal_length held_word_of held_of heads_of head_of lows_of highs_of row_at entries_at entry_low entry_high
    row_within_of assigned written_of outcome_if outcomes_with outcomes_by outcomes_of
    all_outcomes rule8 held_in_range head_in_range rule9 before_of rule10 holds_start start_point rule11 locks_fit rows_fit rule12 rule13
    files filed writes rule14 takes disturbs undisturbed rule15 rests rest_point rest_entry rule16
    alarms_by alarms_if alarms_at first_bad_in layout_stage words_stage start_stage outcome_stage shared_stage ready_of examined_of
    raised pair_if pairs_at pairs_of alarm_words room_stage stages_of verdict_by verdict_numbers number_by check_of buffer_by buffer_of
starred = refl
