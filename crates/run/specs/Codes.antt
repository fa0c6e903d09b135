-- What the evaluators give and take, in the form that the code has it: an error is one number, and a pair of conditions goes by the number of its kind.
-- Assumes nothing.
use Rattle.std.specs.Prelude.{ℕ, ◌+◌, ◌/◌, ◌%◌, Bool, ◌&&◌, ◌||◌, eqb, Result, Ok, Err}
use Rattle.table.specs.Decode.{pick}
use Rattle.table.specs.Meaning.{Evaluation, gives, stops}
use Rattle.run.specs.declared.stop.Stop.{Stop}

-- what an answer stands for, at the position p
unfoldable pub evaluation_of : {A : Type 0} → Result A Stop → ℕ → Evaluation A
evaluation_of (Ok x) p = gives x p
evaluation_of (Err s) p = stops (s.number / 2) (1 + s.number % 2) p

-- what the kinds 20 and 21 make of two truths
unfoldable pub kind_pair : ℕ → Bool → Bool → Bool
kind_pair k t u = pick (eqb k 20) (t && u) (t || u)
