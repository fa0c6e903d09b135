-- The whole request: from the stages that passed to what its words are.
-- Assumes nothing.
use Prim.Native.Nat.{ℕ, ◌*◌, ◌/◌, ◌≤◌}
use mathlib.Core.Path.{◌≡◌, refl, ap}
use mathlib.Core.List.{List}
use native.Mathlib.Omega.{arith}
use borrow.Author.Tests.{leb-true}
use lib.IntN.{ℤ}
use lib.ListN.{length}
use Rattle.words.proofs.FirstLaws.{first_bad-none}
use Rattle.words.proofs.StageLaws.{refuse-found, refuse-later, test-passed, and_then-first, and_then-later}
use Rattle.table.specs.Layout.{sizes_of}
use Rattle.table.specs.Validate.{validate_of}
use Rattle.table.specs.Passes.{Passes}
use Rattle.table.proofs.PassLaws as table
use Rattle.rules.specs.Proposal.{intervals_of, heads_from, lows_from, proposal_length}
use Rattle.checker.specs.AlarmList.{raised, alarm_words}
use Rattle.checker.specs.Check.{check_of}
use Rattle.checker.specs.Laws.{Accepts}
use Rattle.checker.proofs.ListLaws.{pairs-even}
use Rattle.checker.proofs.Laws.{proved as check}
use Rattle.proposer.specs.Laws.{Words, Ended}
use Rattle.proposer.specs.Walk.{held_at, rule18, walked_to, Brings}
use Rattle.proposer.specs.Passes.{State, start_of, begun, pass_of, pass_bound}
use Rattle.proposer.specs.Propose.{words_needed, propose_stage, words_of, made_for, proposed_of, propose_by, propose_of, given_by}
use Rattle.proposer.proofs.MadeLaws.{Last, last-pass, all-passes}
use Rattle.proposer.proofs.WordLaws.{whole}
use Rattle.proposer.proofs.EntryLaws.{entries-few, low_fits, high_fits}
use Rattle.proposer.proofs.RangeLaws.{size_ok, range-ok, order-ok}
use Rattle.proposer.proofs.RuleLaws.{start-ok, locks-ok, flow-ok, write-ok, disturb-ok, rest_ok}
use Rattle.proposer.proofs.WalkLaws.{walks-bring}
use Rattle.words.specs.Stages.{passed}
use Rattle.words.specs.declared.refusal.Rule.TheVariants.{Walks, Rise, Space}
use Rattle.std.specs.Prelude.{Ok}

words-even : (t w : List ℤ) → length (alarm_words t w) ≡ 2 * (length (alarm_words t w) / 2)
unfolding alarm_words
words-even t w = pairs-even (raised t w) (sizes_of t).nodes

module _ (t ts : List ℤ) (room : ℕ) (words : Words t) (ok : propose_stage t ts room ≡ passed) where
  valid : validate_of t ≡ passed
  unfolding propose_stage
  valid = and_then-first (validate_of t) _ ok

  passes : Passes t
  passes = table.passes t valid

  enough : words_needed t ≤ room
  unfolding propose_stage
  enough = leb-true _ _ (test-passed Space _ _ _ (refuse-later Rise _ _ (and_then-later (validate_of t) _ ok)))

  brings : Brings t (held_at t) (walked_to t)
  unfolding propose_stage
  brings =
      walks-bring t passes
      (first_bad-none (rule18 t) (sizes_of t).points (refuse-found Walks _ _ (refuse-later Space _ _ (refuse-later Rise _ _ (and_then-later (validate_of t) _ ok)))))

  -- ---- the last pass
  last : Last t ts (held_at t) (walked_to t) passes words brings (made_for t ts) (pass_bound t ts)
  unfolding made_for
  last = last-pass t ts (held_at t) (walked_to t) passes words brings

  abbrev final : State
  final = begun last.before

  proposed-is : proposed_of t ts ≡ words_of t (held_at t) final
  unfolding proposed_of
  proposed-is = ap (λ (s : State). words_of t (held_at t) s) last.is

  whole_is : length (words_of t (held_at t) final) ≡ proposal_length t (words_of t (held_at t) final)
  whole_is =
      whole t (held_at t) final (low_fits t ts (held_at t) (walked_to t) passes words brings final last.inv) (high_fits t ts (held_at t) (walked_to t) passes words brings final last.inv)

  -- ---- every rule
  keeps : (alarms : ℕ) → length (alarm_words t (words_of t (held_at t) final)) ≤ alarms
      → Accepts t (words_of t (held_at t) final) alarms (length (alarm_words t (words_of t (held_at t) final)) / 2)
  keeps alarms l =
      let even = words-even t (words_of t (held_at t) final) in
      record {
        table = valid;
        whole = whole_is;
        match = size_ok t ts (held_at t) (walked_to t) passes words brings final last.inv;
        range = range-ok t ts (held_at t) (walked_to t) passes words brings final last.inv;
        order = order-ok t ts (held_at t) (walked_to t) passes words brings final last.inv;
        start = start-ok t ts (held_at t) (walked_to t) passes words brings final last.inv last.still refl refl;
        locks = locks-ok t ts (held_at t) (walked_to t) passes words brings final last.inv last.still refl refl;
        flow = flow-ok t ts (held_at t) (walked_to t) passes words brings final last.inv last.still refl refl;
        write = write-ok t ts (held_at t) (walked_to t) passes words brings final last.inv last.still refl refl;
        disturb = disturb-ok t ts (held_at t) (walked_to t) passes words brings final last.inv last.still refl refl;
        rest = rest_ok t ts (held_at t) (walked_to t) passes words brings final last.inv last.still refl refl;
        fits = omega arith;
        listed = even;
      }

  pub accepted : (alarms : ℕ) → length (alarm_words t (proposed_of t ts)) ≤ alarms → check_of t (proposed_of t ts) alarms ≡ Ok (length (alarm_words t (proposed_of t ts)) / 2)
  accepted alarms l =
      rw proposed-is (check.accepts-back t (words_of t (held_at t) final) alarms _ (keeps alarms (rw proposed-is at l)))

  pub fits : length (proposed_of t ts) ≤ words_needed t
  unfolding proposal_length lows_from heads_from intervals_of
  fits = rw proposed-is (omega (arith, whole_is, entries-few t ts (held_at t) (walked_to t) passes words brings final last.inv))

  pub in-room : length (proposed_of t ts) ≤ room
  in-room = omega (arith, fits, enough)

  pub few-passes : (given_by (propose_of t ts room)).passes ≤ pass_bound t ts
  unfolding propose_of propose_by given_by
  few-passes = rw ok last.few

  pub settled : pass_of t ts (held_at t) (made_for t ts).state ≡ (made_for t ts).state
  settled = rw last.is last.again

  pub ended : Ended (pass_of t ts (held_at t)) (start_of t) (made_for t ts).passes (made_for t ts).state
  unfolding made_for
  ended = all-passes t ts (held_at t) (walked_to t) passes words brings
