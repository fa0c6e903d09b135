-- What a run answers and leaves in its slice, from what `run` gave: the answer `laid_of` has the numbers of the run's stage, and its slice is the run's.
-- Assumes nothing.
use Prim.Native.Nat.{ℕ}
use mathlib.Core.Path.{◌≡◌, refl, ap, ◌∙◌}
use mathlib.Core.List.{List}
use lib.IntN.{ℤ}
use lib.ListN.{length}
use Rattle.std.specs.Prelude.{Ok, Err}
use Rattle.words.specs.declared.refusal.Rule.{Rule}
use Rattle.words.specs.Stages.{Stage, passed, broken, and_then, stage_of, numbers_by, stage_numbers, buffer_by}
use Rattle.words.proofs.StageLaws.{and_then-first}
use Rattle.table.specs.Validate.{validate_of}
use Rattle.checker.specs.Check.{verdict_by, verdict_numbers}
use Rattle.run.specs.Run.{last_of, run_of}
use Rattle.run.proofs.RunLaws.{run-stage, run-last}
use Rattle.rangecheck_c.specs.declared.RangecheckAnswer.{RangecheckAnswer}
use Rattle.rangecheck_c.specs.Answer.{answer_of, short_stage, ran_stage}
use Rattle.rangecheck_c.specs.Slots.{slots_of, slots_by, laid_of, slice_of}

-- ---- an answer without a count is its stage
counted-stage : (s : Stage) → stage_of (verdict_by s 0) ≡ s
unfolding verdict_by stage_of
counted-stage (Ok tt) = refl
counted-stage (Err e) = refl

counted-numbers : (s : Stage) → verdict_numbers (verdict_by s 0) ≡ stage_numbers s
unfolding verdict_by verdict_numbers numbers_by
counted-numbers (Ok tt) = refl
counted-numbers (Err e) = refl

-- the words count only where the stage passed
same-words : (s : Stage) (d : List ℤ) {ws vs : List ℤ} → (s ≡ passed → ws ≡ vs) → buffer_by s ws d ≡ buffer_by s vs d
unfolding buffer_by
same-words (Ok tt) d h = rw (h refl)
same-words (Err e) d h = refl

module _ (t ws : List ℤ) where
  ran : (room : ℕ) → and_then (stage_of (run_of t ws)) (short_stage room) ≡ ran_stage t room
  unfolding ran_stage
  ran room = rw (run-stage t ws)

  pub laid_numbers : (room : ℕ) → verdict_numbers (laid_of (run_of t ws) room) ≡ stage_numbers (ran_stage t room)
  unfolding laid_of
  laid_numbers room = counted-numbers _ ∙ ap stage_numbers (ran room)

  last-words : (room : ℕ) → ran_stage t room ≡ passed → slots_by (run_of t ws) ≡ slots_of (last_of t ws)
  unfolding ran_stage
  last-words room e = ap slots_of (run-last t ws (and_then-first (validate_of t) (short_stage room) e))

  pub laid_slice : (d : List ℤ) → buffer_by (stage_of (laid_of (run_of t ws) (length d))) (slots_by (run_of t ws)) d ≡ slice_of t ws d
  unfolding laid_of slice_of
  laid_slice d = rw (counted-stage (and_then (stage_of (run_of t ws)) (short_stage (length d))), ran (length d)) (same-words _ d (last-words (length d)))

  -- a refusal leaves the slice as it came
  pub refused : (d : List ℤ) {r : RangecheckAnswer} {rule : Rule} {place : ℕ} → ran_stage t (length d) ≡ broken rule place
      → r ≡ answer_of (stage_numbers (broken rule place)) → (r ≡ answer_of (stage_numbers (ran_stage t (length d)))) × (d ≡ slice_of t ws d)
  unfolding slice_of buffer_by
  refused d e h = rw e (h, refl)

pub ruleset laid = (laid_numbers, laid_slice)
