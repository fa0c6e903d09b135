-- What `first_bad` and a stage tell, for any test and any rules. The function `laws_hold` has these laws as its contract.
-- Assumes nothing.
use Rattle.std.specs.Prelude.{ℕ, ◌<◌, ◌≡◌, Bool, true, false, Option, None, Some}
use Rattle.words.specs.First.{first_bad, all_below, some_below}
use Rattle.words.specs.Stages.{Stage, passed, broken, refuse, and_then}
use Rattle.words.specs.declared.refusal.Rule.{Rule}

-- k is below n, the test fails there, and holds at every place before it
pub record Smallest (f : ℕ → Bool) (n k : ℕ) : Type 0 where
  pub below : k < n
  pub fails : f k ≡ false
  pub earlier : (j : ℕ) → j < k → f j ≡ true

pub record FirstLaws : Type 0 where
  -- the answer is the smallest failing place, and there is no other
  pub first_bad-smallest : (f : ℕ → Bool) (n k : ℕ) → first_bad f n ≡ Some k → Smallest f n k
  pub smallest-first_bad : (f : ℕ → Bool) (n k : ℕ) → Smallest f n k → first_bad f n ≡ Some k
  -- nothing is found exactly when the test holds at each place
  pub first_bad-none : (f : ℕ → Bool) (n : ℕ) → first_bad f n ≡ None → (k : ℕ) → k < n → f k ≡ true
  pub none-first_bad : (f : ℕ → Bool) (n : ℕ) → ((k : ℕ) → k < n → f k ≡ true) → first_bad f n ≡ None
  pub all_below-each : (f : ℕ → Bool) (n : ℕ) → all_below f n ≡ true → (k : ℕ) → k < n → f k ≡ true
  pub each-all_below : (f : ℕ → Bool) (n : ℕ) → ((k : ℕ) → k < n → f k ≡ true) → all_below f n ≡ true
  pub some_below-one : (f : ℕ → Bool) (n : ℕ) → some_below f n ≡ true → (k : ℕ) × (k < n) × (f k ≡ true)
  pub one-some_below : (f : ℕ → Bool) (n k : ℕ) → k < n → f k ≡ true → some_below f n ≡ true

pub record StageLaws : Type 0 where
  -- a stage that passed: its first rule found nothing, and the later rules passed; and the other way round
  pub refuse-found : (rule : Rule) (s : Option ℕ) (later : Stage) → refuse rule s later ≡ passed → s ≡ None
  pub refuse-later : (rule : Rule) (s : Option ℕ) (later : Stage) → refuse rule s later ≡ passed → later ≡ passed
  pub refuse-passed : (rule : Rule) (s : Option ℕ) (later : Stage) → s ≡ None → later ≡ passed → refuse rule s later ≡ passed
  pub and_then-first : (s later : Stage) → and_then s later ≡ passed → s ≡ passed
  pub and_then-later : (s later : Stage) → and_then s later ≡ passed → later ≡ passed
  pub and_then-passed : (s later : Stage) → s ≡ passed → later ≡ passed → and_then s later ≡ passed
  -- the first broken rule is the one that is named
  pub refuse-broken : (rule : Rule) (p : ℕ) (s : Option ℕ) (later : Stage) → s ≡ Some p → refuse rule s later ≡ broken rule p

pub record Laws : Type 0 where
  pub first : FirstLaws
  pub stages : StageLaws
