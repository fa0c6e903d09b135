-- The examples, by computation.
-- Assumes nothing.
use mathlib.Core.Path.{refl}
use Rattle.interval.specs.Integer.{min4_z, max4_z, eq_z}
use Rattle.interval.specs.Interval.{on_ends}
use Rattle.interval.specs.Lattice.{meet_of}
use Rattle.interval.specs.Arithmetic.{hull_of, below_of, above_of, either_part_of, uncut_of, computed_of, operate_of}
use Rattle.interval.specs.Compare.{decide_of, compare_of, both_of, either_of, opposite_of}
use Rattle.interval.specs.Narrow.{kept_of, cuts_at, cuts_for_of, cuts_of, high_past_of, low_past_of, without_of}
use Rattle.words.specs.Words.{number_of}
use Rattle.words.specs.First.{unless, or_else, first_bad, all_below, some_below}
use Rattle.words.specs.Stages.{refuse, and_then, stage_of, number_by, numbers_by}
use Rattle.table.specs.Layout.{shares_of, starts_of, points_of, nodes_of, four_by, four_of, first_in, later_of, last_in, first_of, task_of}
use Rattle.table.specs.Decode.{kept, shape_by, shape_from, point_by, point_from}
use Rattle.table.specs.Tree.{arith_by, cond_by, arith_f, arith_at, cond_at}
use Rattle.table.specs.Formed.{node_fields_of, point_fields_of, fits_of}
use Rattle.table.specs.Uses.{ref_of, refs_below, count_of, uses_of}
use Rattle.table.specs.Validate.{sizes_stage, parts_stage}
use Rattle.analysis.specs.Rows.{row_if, then_row, put_of, meet_at_of, each, each_rest, slots_of, join_rows_of}
use Rattle.analysis.specs.Analysis.{range_on, carry_of, carry_both_of, value_of}
use Rattle.rules.specs.Proposal.{entries_of, intervals_of, heads_from, lows_from, proposal_length, held_word_of, held_of, heads_of, head_of, lows_of, highs_of}
use Rattle.rules.specs.Outcomes.{assigned, written_of, outcome_if, outcomes_with, only_if, meet_rows_of}
use Rattle.rules.specs.Rules.{all_outcomes, rule8, held_in_range, head_in_range, rule9, before_of, rule10, holds_start, start_point, rule11, locks_fit, rows_fit, rule12, rule13}
use Rattle.words.specs.Tabulate.{tabulate}
use Rattle.proposer.specs.Fold.{fold_below, concat_below, those_if, those}
use Rattle.proposer.specs.Walk.{goes_if, goes_of, mark_all, walk_if, walk_on, round_of, first_marks, walks_of, or_zero, held_in, held_at, one_in, rule18, walked_to}
use Rattle.proposer.specs.Widen.{floor_of, ceil_of, low_to, high_to, covers_of, trimmed_of, widened_of, take_if, take_by, take_in}
use Rattle.proposer.specs.Passes.{start_if, start_of, row_in, files_by, slot_of, written_to, take_both, entry_into, disturb, unguarded, take_all, rested_by, file_in, filed_by, leave_by, leave, visit, rest_visit, pass_of, made_if, made_from, made_of}
use Rattle.proposer.specs.Propose.{held_by, entry_by, is_some, codes_of, words_of, rule19, propose_stage, made_for, proposed_of, propose_by, propose_of}
use Rattle.proposer.specs.Examples.{Shown}

pub shown : Shown
unfolding both_of either_of opposite_of high_past_of low_past_of without_of above_of all_below all_outcomes and_then arith_at arith_by arith_f assigned before_of below_of carry_both_of carry_of compare_of computed_of cond_at cond_by count_of cuts_at cuts_for_of cuts_of decide_of each each_rest either_part_of entries_of eq_z first_bad first_in first_of fits_of four_by four_of head_in_range head_of heads_from heads_of held_in_range held_of held_word_of highs_of holds_start hull_of intervals_of join_rows_of kept kept_of last_in later_of locks_fit lows_from lows_of max4_z meet_at_of meet_of meet_rows_of min4_z node_fields_of nodes_of number_of on_ends only_if operate_of or_else outcome_if parts_stage point_by point_fields_of point_from points_of proposal_length put_of range_on ref_of refs_below refuse row_if rows_fit rule10 rule11 rule12 rule13 rule8 rule9 shape_by shape_from shares_of sizes_stage slots_of some_below start_point starts_of tabulate task_of then_row uncut_of unless uses_of value_of written_of fold_below concat_below those_if those goes_if goes_of mark_all walk_if walk_on round_of first_marks walks_of or_zero held_in held_at one_in rule18 walked_to floor_of ceil_of low_to high_to covers_of trimmed_of widened_of take_if take_by take_in start_if start_of row_in files_by slot_of written_to take_both entry_into disturb unguarded outcomes_with take_all rested_by file_in filed_by leave_by leave visit rest_visit pass_of made_if made_from made_of held_by entry_by is_some codes_of words_of rule19 propose_stage made_for proposed_of propose_by propose_of stage_of number_by numbers_by
shown = record {
  words0 = refl;
  made0 = refl;
  words1 = refl;
  made1 = refl;
  words2 = refl;
  made2 = refl;
  words3 = refl;
  made3 = refl;
  short = refl;
  short-number = refl;
  falls = refl;
  falls-number = refl;
  joins = refl;
  joins-number = refl;
  short-joins = refl;
  short-joins-number = refl;
}
