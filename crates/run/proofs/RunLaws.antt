-- Laws of a run: each step uses a word at least, so that none is left after as many steps as there are words, and past the schedule's end the state
-- stands still. `Reached` is the invariant of the loop that plays a schedule. What `run` gives is the table's stage, and the last state where that
-- passed.
-- Assumes nothing.
use Prim.Native.Nat.{ℕ, zero, suc, ◌+◌, ◌≤◌, ◌<◌}
use mathlib.Core.Path.{◌≡◌, refl, sym, ap, ◌∙◌}
use mathlib.Core.Bool.{Bool, true, false}
use mathlib.Core.List.{List}
use native.Mathlib.Omega.{arith}
use native.Mathlib.Decide.{le_ind}
use borrow.Author.Tests.{ltb-true, ltb-false, lt-ltb, le-ltb}
use lib.Dec.{ltb}
use lib.IntN.{ℤ}
use lib.ListN.{length}
use Rattle.words.specs.Words.{number_at}
use Rattle.table.specs.declared.Point.{Point}
use Rattle.table.specs.declared.Point.TheVariants.{End, Assign, Test, Lock, Unlock}
use Rattle.table.specs.Layout.{nodes_of}
use Rattle.table.specs.Validate.{validate_of}
use Rattle.run.specs.declared.State.{State}
use Rattle.run.specs.declared.Stepped.{Stepped}
use Rattle.run.specs.State.{start_of}
use Rattle.run.specs.Step.{stepped, assign_by, test_by, act_of, runs_of, turn_by, turn_of, step_by, step_of}
use Rattle.run.specs.Run.{after, last_of, played_by, run_of, state_by}
use Rattle.run.proofs.EndLaws.{Ends, Tells, result-ends, truth-tells}
use Rattle.std.specs.Prelude.{Ok, Err}
use Rattle.words.specs.Stages.{Stage, passed, stage_of}
use Rattle.table.specs.Meaning.{Evaluation, gives, stops}

-- ---- what a task does ends no earlier than it started
assign-from : (b p : ℕ) (r : Evaluation ℤ) (s : State) (u v q : ℕ) → Ends b p r → p ≤ (assign_by r s u v q).at
unfolding assign_by
assign-from b p (gives z at) s u v q h = h
assign-from b p (stops n k at) s u v q h = h.0

test-from : (b p : ℕ) (r : Evaluation Bool) (s : State) (u y n : ℕ) → Tells b p r → p ≤ (test_by r s u y n).at
unfolding test_by
test-from b p (gives true at) s u y n h = h
test-from b p (gives false at) s u y n h = h
test-from b p (stops e k at) s u y n h = h.0

module _ (t ws : List ℤ) where
  act-from : (what : Point) (s : State) (u p : ℕ) → p ≤ (act_of t ws what s u p).at
  unfolding act_of
  act-from End s u p = omega arith
  act-from (Assign v e q) s u p = assign-from _ _ _ s u v q (result-ends (nodes_of t) s.values ws e p)
  act-from (Test c y n) s u p = test-from _ _ _ s u y n (truth-tells (nodes_of t) s.values ws c p)
  act-from (Lock m q) s u p = omega arith
  act-from (Unlock m q) s u p = omega arith

  turn-from : (b : Bool) (s : State) (u p : ℕ) → p ≤ (turn_by b t ws s u p).at
  unfolding turn_by
  turn-from true s u p = act-from _ s u p
  turn-from false s u p = omega arith

  -- ---- a step
  pub step-uses : (s : State) (at : ℕ) → at < length ws → at < (step_of t ws s at).at
  unfolding step_of step_by turn_of
  step-uses s at h = rw (lt-ltb _ _ h) (omega (arith, turn-from (runs_of t s (number_at ws at)) s (number_at ws at) (at + 1)))

  -- what the code gave uses a word too
  pub given-uses : (s : State) {at : ℕ} {r : Stepped} → r ≡ step_of t ws s at → at < length ws → at < r.at
  given-uses s {at} e h = rw e (step-uses s at h)

  step-still : (s : State) (at : ℕ) → length ws ≤ at → step_of t ws s at ≡ stepped s at
  unfolding step_of step_by
  step-still s at h = rw (le-ltb _ _ h)

  -- ---- many steps
  still : (k : ℕ) → length ws ≤ (after t ws k).at → (m : ℕ) → k ≤ m → after t ws m ≡ after t ws k
  unfolding after
  still k h =
      le_ind {n = k} (λ (m : ℕ). after t ws m ≡ after t ws k) refl
      (λ m _ e. ap (λ (x : Stepped). step_of t ws x.state x.at) e ∙ step-still (after t ws k).state (after t ws k).at h)

  -- k words are used after k steps, while there are as many
  step-on : (s : State) (at k : ℕ) → k ≤ at → suc k ≤ length ws → (b : Bool) → ltb at (length ws) ≡ b → suc k ≤ (step_of t ws s at).at
  step-on s at k l h true e = omega (arith, step-uses s at (ltb-true at _ e))
  step-on s at k l h false e = let m = ltb-false at _ e in rw (step-still s at m) (omega arith)

  used : (k : ℕ) → k ≤ length ws → k ≤ (after t ws k).at
  unfolding after
  used zero h = omega arith
  used (suc k) h = step-on _ _ k (used k (omega arith)) h _ refl

  pub all-used : length ws ≤ (after t ws (length ws)).at
  all-used = used (length ws) (omega arith)

  pub finished : (n : ℕ) → length ws ≤ n → after t ws n ≡ after t ws (length ws)
  finished n h = still (length ws) all-used n h

  -- once no word is left, the state is the last one
  pub ended : (k : ℕ) → length ws ≤ (after t ws k).at → (after t ws k).state ≡ last_of t ws
  unfolding last_of
  ended k h =
      ap (λ (x : Stepped). x.state) (sym (still k h (k + length ws) (omega arith)) ∙ finished (k + length ws) (omega arith))

-- ---- the state s and the position at stand after some steps of the schedule
pub record Reached (t ws : List ℤ) (s : State) (at : ℕ) : Type 0 where
  pub steps : ℕ
  pub is : after t ws steps ≡ stepped s at

module _ {t ws : List ℤ} where
  pub reached-start : {s : State} → s ≡ start_of t → Reached t ws s 0
  unfolding after
  reached-start e = record { steps = 0; is = rw e }

  pub reached-next : {s : State} {at : ℕ} {r : Stepped} → Reached t ws s at → r ≡ step_of t ws s at → Reached t ws r.state r.at
  unfolding after
  reached-next c e = record { steps = suc c.steps; is = ap (λ (x : Stepped). step_of t ws x.state x.at) c.is ∙ sym e }

pub ruleset reached = (given-uses, reached-start, reached-next, ended)

-- ---- what a run gives
played-stage : (r : Stage) (s : State) → stage_of (played_by r s) ≡ r
unfolding played_by stage_of
played-stage (Ok tt) s = refl
played-stage (Err e) s = refl

pub run-stage : (t ws : List ℤ) → stage_of (run_of t ws) ≡ validate_of t
unfolding run_of
run-stage t ws = played-stage (validate_of t) (last_of t ws)

pub run-last : (t ws : List ℤ) → validate_of t ≡ passed → state_by (run_of t ws) ≡ last_of t ws
unfolding run_of played_by state_by
run-last t ws e = rw e
