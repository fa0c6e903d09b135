-- What acceptance tells of the alarm words that the program lends.
-- Assumes nothing.
use Rattle.std.specs.Prelude.{ℕ, ◌*◌, ◌≤◌, ◌≡◌, List, ℤ, Result, Ok}
use mathlib.Core.Path.{sym, ◌∙◌}
use Rattle.words.specs.declared.refusal.Refusal.{Refusal}
use Rattle.checker.specs.Check.{check_of}
use Rattle.checker.proofs.AcceptLaws.{accepts, accepted-buffer}

-- the pairs of all alarms have room; r is the check's answer, as the code has it
pub few_alarms : (t w : List ℤ) (room n : ℕ) {r : Result ℕ Refusal} → r ≡ check_of t w room → r ≡ Ok n → 2 * n ≤ room
few_alarms t w room n is e = (accepts t w room n (sym is ∙ e)).fits

pub ruleset listed = (accepted-buffer)
