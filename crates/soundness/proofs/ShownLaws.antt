-- The concrete table: the check and the runs by computation, and the claim applied to it.
-- Assumes nothing.
use Prim.Native.Nat.{ℕ, ◌<◌}
use mathlib.Core.Path.{◌≡◌, refl, ap, subst, ◌∙◌}
use mathlib.Core.List.{List, []}
use lib.Dec.{lit<}
use lib.IntN.{ℤ, pos, negsuc}
use lib.ListN.{length}
use Rattle.interval.specs.Integer.{min4_z, max4_z, eq_z}
use Rattle.interval.specs.Interval.{on_ends, Within}
use Rattle.interval.specs.Lattice.{within_of, meet_of}
use Rattle.interval.specs.Arithmetic.{hull_of, below_of, above_of, either_part_of, largest_of, remainder_low_of, remainder_high_of, remainders_of, uncut_of, computed_of, operate_of}
use Rattle.words.specs.Words.{word_of, number_of}
use Rattle.words.specs.First.{unless, or_else, first_bad, all_below, some_below}
use Rattle.words.specs.Stages.{refuse, and_then, broken, number_by, refused_as}
use Rattle.words.specs.Tabulate.{tabulate}
use Rattle.table.specs.Layout.{sizes_of, shares_of, starts_of, points_of, nodes_of, four_by, four_of, first_in, later_of, last_in, first_of, task_of}
use Rattle.table.specs.Decode.{kept, shape_by, shape_from, point_by, point_from}
use Rattle.table.specs.Tree.{arith_by, arith_f, arith_at}
use Rattle.table.specs.Formed.{node_fields_of, point_fields_of, fits_of}
use Rattle.table.specs.Uses.{ref_of, refs_below, count_of, uses_of}
use Rattle.table.specs.Validate.{sizes_stage, parts_stage}
use Rattle.table.specs.Meaning.{followed_by, fit_by, fit, perform_by, perform, word_in, input_by, result}
use Rattle.analysis.specs.Rows.{slots_of, row_if, each}
use Rattle.analysis.specs.Alarms.{alarm_if, told_of, lists}
use Rattle.analysis.specs.Analysis.{value_of}
use Rattle.rules.specs.Proposal.{entries_of, intervals_of, heads_from, lows_from, proposal_length, held_word_of, held_of, heads_of, head_of, lows_of, highs_of, row_at, entries_at, entry_low, entry_high}
use Rattle.rules.specs.Outcomes.{row_within_of, meet_rows_of, assigned, written_of, outcome_if, only_if, outcomes_with, outcomes_by, outcomes_of}
use Rattle.rules.specs.Rules.{all_outcomes, rule8, held_in_range, head_in_range, rule9, before_of, rule10, holds_start, start_point, rule11, locks_fit, rows_fit, rule12, rule13, files, filed, writes, rule14, takes, disturbs, undisturbed, rule15, rests, rest_point, rest_entry, rule16}
use Rattle.rules.specs.Alarms.{alarms_by, alarms_if, alarms_at}
use Rattle.rules.specs.Examine.{layout_stage, words_stage, start_stage, outcome_stage, shared_stage, ready_of, examined_of}
use Rattle.words.specs.First.{first_bad_in}
use Rattle.checker.specs.AlarmList.{raised, pair_if, pairs_at, pairs_of, alarm_words}
use Rattle.checker.specs.Check.{room_stage, stages_of, verdict_by, verdict_numbers, check_of}
use Rattle.run.specs.State.{point_in, free_of, firsts_of, values_of, start_of}
use Rattle.run.specs.Step.{assign_by, lock_by, unlock_by, act_of, runs_of, turn_by, turn_of, step_by, step_of}
use Rattle.run.specs.Run.{after, last_of, played_by, run_of, state_by}
use Rattle.soundness.specs.Safe.{Safe}
use Rattle.soundness.specs.Claim.{list_of}
use Rattle.soundness.specs.Shown.{table, proposed, proposal, buffer, alarms, stopped, dividing, overflowing, remaining, Shown}
use Rattle.soundness.proofs.Whole.{whole, list-is}
use Rattle.std.specs.Prelude.{Ok}
use Rattle.words.specs.declared.refusal.Rule.TheVariants.{Write}

-- ---- by computation
checked : (check_of table proposal (length buffer) ≡ Ok 3)
    × (alarm_words table proposal ≡ alarms)
    × (check_of table (proposed (pos 3)) (length buffer) ≡ broken Write 3)
unfolding min4_z max4_z eq_z on_ends within_of meet_of hull_of below_of above_of either_part_of largest_of remainder_low_of remainder_high_of remainders_of uncut_of computed_of operate_of number_of unless or_else first_bad all_below some_below refuse and_then shares_of starts_of points_of nodes_of four_by four_of first_in later_of last_in first_of task_of kept shape_by shape_from point_by point_from arith_by arith_f arith_at node_fields_of point_fields_of fits_of ref_of refs_below count_of uses_of sizes_stage parts_stage tabulate slots_of row_if each alarm_if told_of lists value_of entries_of intervals_of heads_from lows_from proposal_length held_word_of held_of heads_of head_of lows_of highs_of row_at entries_at entry_low entry_high row_within_of meet_rows_of assigned written_of outcome_if only_if outcomes_with outcomes_by outcomes_of all_outcomes rule8 held_in_range head_in_range rule9 before_of rule10 holds_start start_point rule11 locks_fit rows_fit rule12 rule13 files filed writes rule14 takes disturbs undisturbed rule15 rests rest_point rest_entry rule16 alarms_by alarms_if alarms_at first_bad_in layout_stage words_stage start_stage outcome_stage shared_stage ready_of examined_of raised pair_if pairs_at pairs_of alarm_words room_stage stages_of verdict_by check_of
checked = (refl, refl, refl)

unfiled-number : verdict_numbers (check_of table (proposed (pos 3)) (length buffer)) ≡ refused_as 14 3
unfolding verdict_numbers number_by
unfiled-number = ap verdict_numbers checked.2

played : (state_by (run_of table dividing) ≡ stopped 1 7 (pos 0) (pos 0) (pos 1) (negsuc 0) (pos 6) 0 2)
    × (state_by (run_of table overflowing) ≡ stopped 5 7 (pos 1) (negsuc 0) (pos 1) (negsuc 0) (pos 7) 0 1)
    × (state_by (run_of table remaining) ≡ stopped 3 6 (pos 0) (negsuc 0) (pos 0) (pos 2) (negsuc 0) 2 0)
unfolding eq_z number_of unless or_else first_bad refuse shares_of starts_of points_of nodes_of four_by four_of first_in later_of last_in first_of task_of kept shape_by shape_from point_by point_from arith_by arith_f arith_at node_fields_of point_fields_of fits_of ref_of refs_below count_of uses_of sizes_stage parts_stage tabulate followed_by fit_by fit perform_by perform word_in input_by result free_of firsts_of values_of start_of assign_by lock_by unlock_by act_of runs_of turn_by turn_of step_by step_of after last_of played_by run_of state_by
played = (refl, refl, refl)

-- ---- the claim
listed : list_of table proposal buffer 3 ≡ alarms
listed = list-is table proposal buffer [] 3 checked.0 ∙ checked.1

safe : (schedule : List ℤ) (n : ℕ) → Safe table proposal alarms (after table schedule n).state
safe schedule n =
    subst (λ (l : List ℤ). Safe table proposal l (after table schedule n).state) listed
    (whole.each table proposal buffer schedule 3 checked.0 n)

-- the ends of the row at point 4, and the sizes that make task 0 a task and variable 0 a variable
low-four : word_of (row_at table proposal 4).lows 0 ≡ negsuc 4
unfolding number_of entries_of intervals_of heads_from lows_from lows_of row_at
low-four = refl

high-four : word_of (row_at table proposal 4).highs 0 ≡ pos 5
unfolding number_of entries_of intervals_of heads_from lows_from highs_of row_at
high-four = refl

one-task : 0 < (sizes_of table).tasks
unfolding number_of
one-task = lit< tt

one-variable : 0 < (sizes_of table).variables
unfolding number_of
one-variable = lit< tt

guarded : (schedule : List ℤ) (n : ℕ) → point_in (after table schedule n).state 0 ≡ 4
    → Within (negsuc 4) (pos 5) (word_of (after table schedule n).state.values 0)
guarded schedule n e =
    let i = rw e at (((safe schedule n).within 0 one-task).each 0 one-variable) in
    rw (low-four, high-four) at i

pub shown : Shown
shown =
    record {
      accepted = checked.0;
      listed = listed;
      unfiled = checked.2;
      unfiled-number = unfiled-number;
      divides = played.0;
      overflows = played.1;
      remains = played.2;
      safe = safe;
      guarded = guarded;
    }
