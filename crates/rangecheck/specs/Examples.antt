-- Worked examples of the whole program, proved by computation: document 01's Bare, less or more than its bytes, and no bytes at all.
-- Assumes nothing.
use Rattle.std.specs.Prelude.{ℕ, ◌≡◌, refl, List, [], ◌∷◌, ◌++◌, take}
use Rattle.interval.specs.Interval.{on_ends}
use Rattle.interval.specs.Lattice.{within_of}
use Rattle.words.specs.Words.{number_of}
use Rattle.words.specs.First.{unless, or_else, first_bad, all_below, some_below}
use Rattle.words.specs.Stages.{refuse, and_then}
use Rattle.table.specs.Layout.{shares_of, starts_of, points_of, nodes_of, four_by, four_of, first_in, later_of, last_in, first_of, task_of}
use Rattle.table.specs.Decode.{shape_by, shape_from, point_by, point_from}
use Rattle.table.specs.Tree.{arith_by, arith_f, arith_at}
use Rattle.table.specs.Formed.{node_fields_of, point_fields_of, fits_of}
use Rattle.table.specs.Uses.{ref_of, refs_below, count_of, uses_of}
use Rattle.table.specs.Validate.{sizes_stage, parts_stage}
use Rattle.analysis.specs.Rows.{row_if, then_row, put_of, meet_at_of}
use Rattle.analysis.specs.Alarms.{alarm_if, told_of, lists}
use Rattle.analysis.specs.Analysis.{range_on, alarms_on, carry_of, carry_both_of, value_of}
use Rattle.rules.specs.Proposal.{entries_of, intervals_of, heads_from, lows_from, proposal_length, held_word_of, held_of, heads_of, head_of, lows_of, highs_of, row_at, entries_at, entry_low, entry_high}
use Rattle.rules.specs.Outcomes.{row_within_of, assigned, written_of, outcome_if, outcomes_with, outcomes_by, outcomes_of}
use Rattle.rules.specs.Rules.{all_outcomes, rule8, held_in_range, head_in_range, rule9, before_of, rule10, holds_start, start_point, rule11, locks_fit, rows_fit, rule12, rule13, files, filed, writes, rule14, takes, disturbs, undisturbed, rule15, rests, rest_point, rest_entry, rule16}
use Rattle.rules.specs.Alarms.{alarms_by, alarms_if, alarms_at}
use Rattle.rules.specs.Examine.{layout_stage, words_stage, start_stage, outcome_stage, shared_stage, ready_of, examined_of}
use Rattle.words.specs.First.{first_bad_in}
use Rattle.checker.specs.AlarmList.{raised, pair_if, pairs_at, pairs_of, alarm_words}
use Rattle.checker.specs.Check.{room_stage, stages_of, verdict_by, check_of}
use Rattle.words.specs.Tabulate.{tabulate}
use Rattle.words.specs.Bytes.{signed_by, signed_of}
use Rattle.rangecheck.specs.Text.{last_or, digits_in}
use Rattle.rangecheck.specs.Print.{pick, lines_of, accepted_text, text_of, printed_of}
use Rattle.rangecheck.specs.Program.{length_at, table_of, proposal_of, in_limits, called_by, called_for, all_there, unread, program_by, program_of}

-- words below 256 as bytes
abbrev bytes_of : List ℕ → List ℕ
bytes_of [] = []
bytes_of (n ∷ l) = n ∷ 0 ∷ 0 ∷ 0 ∷ bytes_of l

-- 'given 24, 18 and these words'
abbrev bare_bytes : List ℕ
bare_bytes =
    bytes_of
    (24 ∷ 18
    ∷ 2 ∷ 1 ∷ 0 ∷ 3 ∷ 1
    ∷ 2 ∷ 1
    ∷ 0
    ∷ 1 ∷ 0 ∷ 0 ∷ 1
    ∷ 0 ∷ 0 ∷ 0 ∷ 0
    ∷ 0 ∷ 0 ∷ 0 ∷ 0
    ∷ 0 ∷ 5 ∷ 0 ∷ 0
    ∷ 3 ∷ 1 ∷ 0 ∷ 1
    ∷ 0 ∷ 0 ∷ 0
    ∷ 0 ∷ 0 ∷ 0
    ∷ 0 ∷ 5 ∷ 0 ∷ 5
    ∷ 0 ∷ 5 ∷ 5 ∷ 5
    ∷ [])

-- 'accepted 0', as a line
abbrev accepted_none : List ℕ
accepted_none = 97 ∷ 99 ∷ 99 ∷ 101 ∷ 112 ∷ 116 ∷ 101 ∷ 100 ∷ 32 ∷ 48 ∷ 10 ∷ []

pub record Examples : Type 0 where
  pub empty : program_of [] ≡ unread
  pub bare : program_of bare_bytes ≡ accepted_none
  -- 2 lengths, 24 and 18 words are 176 bytes
  pub last-byte-missing : program_of (take 175 bare_bytes) ≡ unread
  pub bytes-behind : program_of (bare_bytes ++ (1 ∷ 2 ∷ 3 ∷ [])) ≡ accepted_none
  -- 5150 is 30 and 20 times 256
  pub table-too-long : program_of (30 ∷ 20 ∷ 0 ∷ 0 ∷ 0 ∷ 0 ∷ 0 ∷ 0 ∷ []) ≡ unread

pub examples : Examples
unfolding on_ends within_of number_of unless or_else first_bad all_below some_below refuse and_then shares_of starts_of points_of nodes_of four_by four_of
    first_in later_of last_in first_of task_of shape_by shape_from point_by point_from arith_by arith_f arith_at node_fields_of point_fields_of fits_of ref_of
    refs_below count_of uses_of sizes_stage parts_stage row_if then_row put_of meet_at_of alarm_if told_of lists range_on alarms_on carry_of carry_both_of value_of
    entries_of intervals_of heads_from lows_from proposal_length held_word_of held_of heads_of head_of lows_of highs_of row_at entries_at entry_low entry_high
    row_within_of assigned written_of outcome_if outcomes_with outcomes_by outcomes_of all_outcomes rule8 held_in_range head_in_range rule9 before_of rule10 holds_start
    start_point rule11 locks_fit rows_fit rule12 rule13 files filed writes rule14 takes disturbs undisturbed rule15 rests rest_point rest_entry rule16
    alarms_by alarms_if alarms_at first_bad_in layout_stage words_stage start_stage outcome_stage shared_stage ready_of examined_of raised pair_if pairs_at
    pairs_of alarm_words room_stage stages_of verdict_by check_of tabulate signed_by signed_of last_or digits_in pick lines_of accepted_text text_of printed_of
    length_at table_of proposal_of in_limits called_by called_for all_there program_by program_of
examples = record { empty = refl; bare = refl; last-byte-missing = refl; bytes-behind = refl; table-too-long = refl }
