-- The converse of `accepted`: where every rule holds and the buffer has room for the list, the check accepts.
-- Assumes nothing.
use Prim.Native.Nat.{ℕ, ◌/◌, ◌<◌}
use mathlib.Core.Path.{◌≡◌, refl, sym, ap}
use mathlib.Core.Bool.{Bool, true, ◌||◌}
use mathlib.Core.List.{List}
use native.Mathlib.Omega.{arith}
use borrow.Author.Tests.{le-leb, eq-eqb}
use lib.Dec.{ltb}
use lib.IntN.{ℤ}
use lib.ListN.{length}
use Rattle.words.specs.Stages.{passed}
use Rattle.words.proofs.Bools.{or_right}
use Rattle.words.proofs.FirstLaws.{none-first_bad}
use Rattle.words.proofs.StageLaws.{pass, pass-if, go}
use Rattle.rules.specs.Proposal.{lows_from, heads_from, proposal_length}
use Rattle.rules.specs.Rules.{rule8, rule9, rule10, rule11, rule12, rule13, rule14, rule15, rule16}
use Rattle.rules.specs.Examine.{whole_of, layout_stage, words_stage, start_stage, outcome_stage, shared_stage, ready_of, examined_of}
use Rattle.words.specs.First.{places, first_bad_in}
use Rattle.checker.specs.AlarmList.{alarm_words}
use Rattle.checker.specs.Check.{room_stage, stages_of, verdict_by, check_of}
use Rattle.checker.specs.Laws.{Accepts}
use Rattle.std.specs.Prelude.{None, Ok}
use Rattle.words.specs.declared.refusal.Rule.TheVariants.{Reach, Match, Range, Order, Start, Locks, Flow, Write, Disturb, Rest, Room}

range-nothing : (f : ℕ → Bool) (from to : ℕ) → ((k : ℕ) → k < to → f k ≡ true) → first_bad_in f (places from to) ≡ None
unfolding first_bad_in
range-nothing f from to h = none-first_bad (λ k. ltb k from || f k) to (λ k l. or_right (ltb k from) (h k l))

module _ (t w : List ℤ) (room count : ℕ) (a : Accepts t w room count) where
  layout-passed : passed ≡ layout_stage t w
  unfolding layout_stage proposal_length lows_from heads_from
  layout-passed =
      pass-if Reach _ (le-leb 4 (length w) (omega (arith, a.whole)))
      (pass Match (none-first_bad (rule8 t w) 4 a.match)
      (pass-if Reach _ (eq-eqb _ _ a.whole) refl))

  words-passed : passed ≡ words_stage t w
  unfolding words_stage
  words-passed = pass Range (none-first_bad (rule9 t w) _ a.range) (pass Order (none-first_bad (rule10 t w) _ a.order) refl)

  start-passed : passed ≡ start_stage t w (whole_of t w)
  unfolding start_stage
  start-passed =
      pass Start (range-nothing (rule11 t w) _ _ (λ k l. a.start k (omega arith)))
      (pass Start (range-nothing (rule11 t w) _ _ a.start) refl)

  outcome-passed : passed ≡ outcome_stage t w (whole_of t w)
  unfolding outcome_stage
  outcome-passed =
      pass Locks (range-nothing (rule12 t w) _ _ a.locks)
      (pass Flow (range-nothing (rule13 t w) _ _ a.flow)
      (pass Write (range-nothing (rule14 t w) _ _ a.write) refl))

  shared-passed : passed ≡ shared_stage t w (whole_of t w)
  unfolding shared_stage
  shared-passed =
      pass Disturb (range-nothing (rule15 t w) _ _ a.disturb)
      (pass Rest (range-nothing (rule16 t w) _ _ (λ k l. a.rest k (omega arith)))
      (pass Rest (range-nothing (rule16 t w) _ _ a.rest) refl))

  ready-passed : passed ≡ ready_of t w
  unfolding ready_of
  ready-passed = go a.table (go (sym layout-passed) (go (sym words-passed) start-passed))

  all-passed : passed ≡ stages_of t w room
  unfolding stages_of examined_of room_stage
  all-passed =
      go (sym (go (sym ready-passed) (go (sym outcome-passed) shared-passed)))
      (pass-if Room _ (le-leb (length (alarm_words t w)) room (omega (arith, a.listed, a.fits))) refl)

  pub accepted-back : check_of t w room ≡ Ok count
  unfolding check_of verdict_by
  accepted-back =
      let is : length (alarm_words t w) / 2 ≡ count = omega (arith, a.listed) in
      rw (← all-passed) (ap Ok is)
