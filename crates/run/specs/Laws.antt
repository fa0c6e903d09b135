-- What every schedule comes to. The function `laws_hold` has these laws as its contract.
-- Assumes nothing.
use Rattle.std.specs.Prelude.{ℕ, ◌<◌, ◌≤◌, ◌≡◌, List, ℤ, length}
use Rattle.run.specs.declared.State.{State}
use Rattle.run.specs.Step.{step_of}
use Rattle.run.specs.Run.{after}

pub record Laws : Type 0 where
  -- a step uses up its task word at least
  pub step-uses : (t ws : List ℤ) (s : State) (at : ℕ) → at < length ws → at < (step_of t ws s at).at
  -- after as many steps as there are words, none is left, and nothing changes any more
  pub all-used : (t ws : List ℤ) → length ws ≤ (after t ws (length ws)).at
  pub finished : (t ws : List ℤ) (n : ℕ) → length ws ≤ n → after t ws n ≡ after t ws (length ws)
