-- Demand 3: 'for any table, any accepted proposal and any schedule of any words and length, at the start and after every step'.
-- Assumes nothing.
use Rattle.std.specs.Prelude.{ℕ, ◌*◌, ◌≡◌, List, ℤ, length, take, Ok}
use Rattle.checker.specs.Check.{check_of, buffer_of}
use Rattle.run.specs.Run.{after, run_of, state_by}
use Rattle.soundness.specs.Safe.{Safe}
use Rattle.words.specs.Stages.{passed, stage_of}

-- 'the alarm list is the pairs written on acceptance, as many as the count'
unfoldable pub list_of : List ℤ → List ℤ → List ℤ → ℕ → List ℤ
list_of t w buffer count = take (2 * count) (buffer_of t w buffer)

pub record Claim : Type 0 where
  -- the start is the state after no step
  pub each : (t w buffer schedule : List ℤ) (count : ℕ) → check_of t w (length buffer) ≡ Ok count
      → (n : ℕ) → Safe t w (list_of t w buffer count) (after t schedule n).state
  -- the state that the run gives back
  pub end : (t w buffer schedule : List ℤ) (count : ℕ) → check_of t w (length buffer) ≡ Ok count
      → Safe t w (list_of t w buffer count) (state_by (run_of t schedule))
  -- an accepted table isn't refused by the run
  pub plays : (t w buffer schedule : List ℤ) (count : ℕ) → check_of t w (length buffer) ≡ Ok count → stage_of (run_of t schedule) ≡ passed
